-- Every moment and call has exactly one answer and exactly one moment after it.
use Rattle.std.proofs.Common.{◌≡◌, ℕ, ◌<◌, ◌≤◌, Bool, true, false, not, ◌||◌, ◌⊎◌, Ok, Err, Result, sym, refl, ap, ◌∙◌, subst, inl, inr, arith}
use Rattle.std.proofs.lemmas.Bool.{both_ways, cases_lt, cases_order}
use Rattle.plans.proofs.Runs.{first}
use Rattle.cards.specs.Moments.{Setting, Moment, done, turned, Cleared, Lowest}
use Rattle.cards.specs.Answers.{asks, leaves, Unmoved, Granted, board_after, Answered, SomeAnswer, OneAnswer, GrantedByRule}
use Rattle.cards.specs.declared.state.State.{State}
use Rattle.cards.specs.declared.state.State.TheVariants.{Waiting, InHand, Finished}
use Rattle.cards.specs.declared.state.Event.{Event}
use Rattle.cards.specs.declared.state.Event.TheVariants.{Begin, Finish, PutBack}
use Rattle.cards.specs.declared.fault.RunFault.{RunFault}
use Rattle.cards.specs.declared.fault.RunFault.TheVariants.{Plan, InHand as StepInHand, SpanTooSmall, NoPlace, WrongState, Unfinished, TooShort}

same_state : (x y : State) → (x ≡ y) ⊎ (x ≡ y → ⊥)
same_state Waiting Waiting = inl refl
same_state Waiting InHand = inr (λ e. cc)
same_state Waiting Finished = inr (λ e. cc)
same_state InHand Waiting = inr (λ e. cc)
same_state InHand InHand = inl refl
same_state InHand Finished = inr (λ e. cc)
same_state Finished Waiting = inr (λ e. cc)
same_state Finished InHand = inr (λ e. cc)
same_state Finished Finished = inl refl

pub finish_begin : Finish ≡ Begin → ⊥
finish_begin e = cc

pub put_back_begin : PutBack ≡ Begin → ⊥
put_back_begin e = cc

met : (x y : Bool) → (not x || y) ≡ true → x ≡ true → y ≡ true
met x y e f = grind arith

unmet : (x y : Bool) → (not x || y) ≡ false → (x ≡ true) × (y ≡ false)
unmet true false e = (refl, refl)
unmet true true e = absurd (both_ways true e refl)
unmet false y e = absurd (both_ways true e refl)

-- either every place that precedes p is finished, or one is the lowest that is not
pub cleared_or_lowest : (size : ℕ) (precedes : ℕ → ℕ → Bool) (finished : ℕ → Bool) (p : ℕ)
    → Cleared size precedes finished p ⊎ ((u : ℕ) × Lowest size precedes finished p u)
cleared_or_lowest size precedes finished p =
    elim (first (λ u. not (precedes u p) || finished u) size) [
      | inl f ↦ inl (λ u l. met (precedes u p) (finished u) (f u l))
      | inr t ↦ (let w = unmet (precedes t.0 p) (finished t.0) t.2 in
          inr (t.0, record { there = t.1; before = w.0; unfinished = w.1; lowest = λ v l. met (precedes v p) (finished v) (t.3 v l) }))
    ]

pub still : (b : Moment) → Unmoved b b
still b = record { state = λ u. refl; board = λ q. refl }

-- the moment after an answer
abbrev pub moved : Setting → Moment → Event → ℕ → Moment
moved s b e p = record { state = turned b.state p (leaves e); board = board_after s b.board e p }

-- a moment is its states and its board
pub moment_is : (a b : Moment) → ((u : ℕ) → a.state u ≡ b.state u) → ((q : ℕ) → a.board q ≡ b.board q) → a ≡ b
moment_is a b f g = λ i. record { state = λ u. f u i; board = λ q. g q i }

-- the moment after, by the answer alone
abbrev pub next : Setting → Moment → Event → ℕ → Result (Unit {0}) RunFault → Moment
next s b e p (Ok _) = moved s b e p
next s b e p (Err f) = b

module _ (s : Setting) (b : Moment) (e : Event) (p : ℕ) where
  pub next_is : (r : Result (Unit {0}) RunFault) (a : Moment) → Answered s b e p r a → a ≡ next s b e p r
  next_is (Ok _) a w = moment_is a (moved s b e p) w.1.state w.1.board
  next_is (Err NoPlace) a w = moment_is a b w.1.state w.1.board
  next_is (Err WrongState) a w = moment_is a b w.2.state w.2.board
  next_is (Err (Unfinished u)) a w = moment_is a b w.4.state w.4.board
  next_is (Err (Plan f)) a w = absurd w
  next_is (Err StepInHand) a w = absurd w
  next_is (Err SpanTooSmall) a w = absurd w
  next_is (Err (TooShort f)) a w = absurd w

  -- how a call stands
  data Standing : Type 0 where
    absent : s.places.size ≤ p → Standing
    wrong : p < s.places.size → (b.state p ≡ asks e → ⊥) → Standing
    blocked : (u : ℕ) → p < s.places.size → e ≡ Begin → b.state p ≡ Waiting → Lowest s.places.size s.precedes (done b) p u → Standing
    free : Granted s b e p → Standing

  abbrev says : Standing → Result (Unit {0}) RunFault
  says (absent l) = Err NoPlace
  says (wrong l n) = Err WrongState
  says (blocked u l i w o) = Err (Unfinished u)
  says (free g) = Ok tt

  stands : Standing
  stands =
      elim (cases_lt p s.places.size) [
        | inr l ↦ absent l
        | inl l ↦ elim (same_state (b.state p) (asks e)) [ inr n ↦ wrong l n | inl i ↦ ready e refl l i ]
      ]
    where
      ready : (x : Event) → e ≡ x → p < s.places.size → b.state p ≡ asks e → Standing
      ready Begin q l i = elim (cleared_or_lowest s.places.size s.precedes (done b) p) [
        | inl f ↦ free (record { there = l; state = i; cleared = λ o. f })
        | inr t ↦ blocked t.0 l q (i ∙ ap asks q) t.1
      ]
      ready Finish q l i = free (record { there = l; state = i; cleared = λ o. absurd (finish_begin (sym q ∙ o)) })
      ready PutBack q l i = free (record { there = l; state = i; cleared = λ o. absurd (put_back_begin (sym q ∙ o)) })

  says_so : (c : Standing) → Answered s b e p (says c) (next s b e p (says c))
  says_so (absent l) = (l, still b)
  says_so (wrong l n) = (l, n, still b)
  says_so (blocked u l i w o) = (l, i, w, o, still b)
  says_so (free g) = (g, record { state = λ u. refl; board = λ q. refl })

  standing : (r : Result (Unit {0}) RunFault) (a : Moment) → Answered s b e p r a → (c : Standing) × (r ≡ says c)
  standing (Ok _) a w = (free w.0, refl)
  standing (Err NoPlace) a w = (absent w.0, refl)
  standing (Err WrongState) a w = (wrong w.0 w.1, refl)
  standing (Err (Unfinished u)) a w = (blocked u w.0 w.1 w.2 w.3, refl)
  standing (Err (Plan f)) a w = absurd w
  standing (Err StepInHand) a w = absurd w
  standing (Err SpanTooSmall) a w = absurd w
  standing (Err (TooShort f)) a w = absurd w

  not_wrong : (u : ℕ) → e ≡ Begin → b.state p ≡ Waiting → b.state p ≡ asks e
  not_wrong u i w = w ∙ ap asks (sym i)

  not_free : (u : ℕ) → e ≡ Begin → Lowest s.places.size s.precedes (done b) p u → Granted s b e p → ⊥
  not_free u i o g = both_ways _ o.unfinished (g.cleared i u o.there o.before)

  one_lowest : (u v : ℕ) → Lowest s.places.size s.precedes (done b) p u → Lowest s.places.size s.precedes (done b) p v → u ≡ v
  one_lowest u v o q =
      elim (cases_order u v) [
        | inl i ↦ i
        | inr i ↦ elim i [
          | inl l ↦ absurd (both_ways _ o.unfinished (q.lowest u l o.before))
          | inr l ↦ absurd (both_ways _ q.unfinished (o.lowest v l q.before))
        ]
      ]

  one_standing : (c d : Standing) → says c ≡ says d
  one_standing (absent l) (absent k) = refl
  one_standing (absent l) (wrong k n) = absurd (omega arith)
  one_standing (absent l) (blocked u k i w o) = absurd (omega arith)
  one_standing (absent l) (free g) = absurd (omega (arith, g.there))
  one_standing (wrong l n) (absent k) = absurd (omega arith)
  one_standing (wrong l n) (wrong k m) = refl
  one_standing (wrong l n) (blocked u k i w o) = absurd (n (not_wrong u i w))
  one_standing (wrong l n) (free g) = absurd (n g.state)
  one_standing (blocked u l i w o) (absent k) = absurd (omega arith)
  one_standing (blocked u l i w o) (wrong k n) = absurd (n (not_wrong u i w))
  one_standing (blocked u l i w o) (blocked v k j x q) = ap (λ (n : ℕ). Err (Unfinished n)) (one_lowest u v o q)
  one_standing (blocked u l i w o) (free g) = absurd (not_free u i o g)
  one_standing (free g) (absent k) = absurd (omega (arith, g.there))
  one_standing (free g) (wrong k n) = absurd (n g.state)
  one_standing (free g) (blocked u l i w o) = absurd (not_free u i o g)
  one_standing (free g) (free h) = refl

pub some_answer : SomeAnswer
some_answer s b e p = (says s b e p (stands s b e p), next s b e p (says s b e p (stands s b e p)), says_so s b e p (stands s b e p))

pub one_answer : OneAnswer
one_answer s b e p r r' a a' w w' =
    let c = standing s b e p r a w in
    let d = standing s b e p r' a' w' in
    let same : r ≡ r' = c.1 ∙ one_standing s b e p c.0 d.0 ∙ sym d.1 in
    (same, next_is s b e p r a w ∙ ap (next s b e p) same ∙ sym (next_is s b e p r' a' w'))

pub granted_by_rule : GrantedByRule
granted_by_rule s b e p r a w = (
  λ i. (subst (λ x. Answered s b e p x a) i w).0,
  λ g. (standing s b e p r a w).1 ∙ one_standing s b e p (standing s b e p r a w).0 (free g),
)
