-- Every moment and request has exactly one reply and exactly one moment after it.
use Rattle.std.proofs.Common.{◌≡◌, ℕ, ◌+◌, Ok, Err, Result, sym, refl, ap, ◌∙◌, subst, inl, inr, arith}
use Rattle.std.proofs.lemmas.Bool.{cases_lt}
use Rattle.cards.specs.Moments.{Setting, Moment}
use Rattle.cards.specs.Answers.{Answered}
use Rattle.cards.specs.Replies.{Replied, Rightly, SomeReply, OneReply}
use Rattle.cards.specs.declared.state.Attempt.{Attempt}
use Rattle.cards.specs.declared.state.State.{State}
use Rattle.cards.specs.declared.request.Request.{Request}
use Rattle.cards.specs.declared.request.Request.TheVariants.{Call, Look}
use Rattle.cards.specs.declared.request.Reply.{Reply}
use Rattle.cards.specs.declared.request.Reply.TheVariants.{Granted as granted, Seen, Refused}
use Rattle.cards.specs.declared.fault.RunFault.{RunFault}
use Rattle.cards.specs.declared.fault.RunFault.TheVariants.{NoPlace}
use Rattle.cards.proofs.Answering.{still, moment_is, some_answer, one_answer, granted_by_rule}

-- what is replied to a call that is so answered
abbrev pub reply_to : Result (Unit {0}) RunFault → Reply
reply_to (Ok _) = granted
reply_to (Err f) = Refused f

seen_is : (i i' n n' : ℕ) (x x' : State) → i ≡ i' → n ≡ n' → x ≡ x' → Seen i n x ≡ Seen i' n' x'
seen_is i i' n n' x x' e f g = cc

module _ (s : Setting) (b : Moment) where
  call_replied : (a : Attempt) (x : Result (Unit {0}) RunFault) (b' : Moment) → Answered s b a.event a.place x b' → Replied s b (Call a) (reply_to x) b'
  call_replied a (Ok _) b' w = w
  call_replied a (Err f) b' w = w

  -- the answer behind the reply to a call
  pub call_answered : (a : Attempt) (r : Reply) (b' : Moment) → Replied s b (Call a) r b'
      → (x : Result (Unit {0}) RunFault) × (r ≡ reply_to x) × Answered s b a.event a.place x b'
  call_answered a granted b' w = (Ok tt, refl, w)
  call_answered a (Seen i n x) b' w = absurd w
  call_answered a (Refused f) b' w = (Err f, refl, w)

  -- a look moves nothing
  pub look_still : (p : ℕ) (r : Reply) (b' : Moment) → Replied s b (Look p) r b' → b' ≡ b
  look_still p granted b' w = absurd w
  look_still p (Seen i n x) b' w = moment_is b' b w.4.state w.4.board
  look_still p (Refused f) b' w = moment_is b' b w.2.state w.2.board

  one_look : (p : ℕ) (r r' : Reply) (a a' : Moment) → Replied s b (Look p) r a → Replied s b (Look p) r' a' → r ≡ r'
  one_look p granted r' a a' w v = absurd w
  one_look p (Seen i n x) granted a a' w v = absurd v
  one_look p (Seen i n x) (Seen i' n' x') a a' w v = seen_is i i' n n' x x' (w.1 ∙ sym v.1) (w.2 ∙ sym v.2) (w.3 ∙ sym v.3)
  one_look p (Seen i n x) (Refused f) a a' w v = absurd (omega (arith, w.0, v.1))
  one_look p (Refused f) granted a a' w v = absurd v
  one_look p (Refused f) (Seen i n x) a a' w v = absurd (omega (arith, v.0, w.1))
  one_look p (Refused f) (Refused f') a a' w v = ap (λ (g : RunFault). Refused g) (w.0 ∙ sym v.0)

pub some_reply : SomeReply
some_reply s b (Call a) =
    let w = some_answer s b a.event a.place in
    (reply_to w.0, w.1, call_replied s b a w.0 w.1 w.2)
some_reply s b (Look p) =
    elim (cases_lt p s.places.size) [
      | inl l ↦ (Seen (s.places.step p) (s.places.level p + 1) (b.state p), b, (l, refl, refl, refl, still b))
      | inr l ↦ (Refused NoPlace, b, (refl, l, still b))
    ]

pub one_reply : OneReply
one_reply s b (Call c) r r' a a' w w' =
    let v = call_answered s b c r a w in
    let v' = call_answered s b c r' a' w' in
    let one = one_answer s b c.event c.place v.0 v'.0 a a' v.2 v'.2 in
    (v.1 ∙ ap reply_to one.0 ∙ sym v'.1, one.1)
one_reply s b (Look p) r r' a a' w w' = (one_look s b p r r' a a' w w', look_still s b p r a w ∙ sym (look_still s b p r' a' w'))

pub rightly : (s : Setting) (b : Moment) (q : Request) (r : Reply) (a : Moment) → Replied s b q r a → Rightly s b q r
rightly s b (Call c) r a w =
    let v = call_answered s b c r a w in (
      λ i. (subst (λ x. Replied s b (Call c) x a) i w).0,
      λ g. v.1 ∙ ap reply_to ((granted_by_rule s b c.event c.place v.0 a v.2).1 g),
    )
rightly s b (Look p) r a w = (
  λ i. (subst (λ x. Replied s b (Look p) x a) i w).0,
  λ l. one_look s b p r _ a b w (l, refl, refl, refl, still b),
)
