-- Requests carried out in turn: none yet, and one more.
use Rattle.std.proofs.Common.{◌≡◌, ℕ, ◌+◌, ◌<◌, List, [], ◌∷◌, ◌++◌, map, length, get_or, take, drop, set, sym, refl, ap, ◌∙◌, subst, arith}
use lib.Seq.{take-length}
use Rattle.std.proofs.lemmas.List.{take_more, take_more_set, drop-set-lt, drop-drop}
use Rattle.books.specs.Book.{Model, Facts}
use Rattle.cards.specs.Moments.{Setting, Moment}
use Rattle.cards.specs.Cards.{setting_of, moment_of, RequestReplied}
use Rattle.cards.specs.Issues.{Numbered}
use Rattle.cards.specs.Replies.{Replied}
use Rattle.cards.specs.Requests.{Made}
use Rattle.cards.specs.declared.card.Card.{Card}
use Rattle.cards.specs.declared.request.Request.{Request}
use Rattle.cards.specs.declared.request.Reply.{Reply}
use Rattle.cards.proofs.Trails.{setting_stays, trail_more, after_more}
use Rattle.checks.specs.Tables.{blank}
use Rattle.checks.specs.declared.arrangement.Arrangement.{Arrangement}
use Rattle.runs.specs.Whole.{Carried}

pub carried_none : (s : Setting) (b : Moment) → Carried s b [] [] b
carried_none s b = record { calls = []; asked = refl; told = refl; trail = tt; ends = refl }

map_more : {A B : Type 0} (f : A → B) (xs : List A) (x : A) → map f (xs ++ x ∷ []) ≡ map f xs ++ f x ∷ []
map_more f [] x = refl
map_more f (y ∷ xs) x = ap (λ zs. f y ∷ zs) (map_more f xs x)

pub carried_more : (s : Setting) (b e a : Moment) (requests : List Request) (replies : List Reply) (x : Request) (r : Reply)
    → Carried s b requests replies e → Replied s e x r a → Carried s b (requests ++ x ∷ []) (replies ++ r ∷ []) a
carried_more s b e a requests replies x r w h =
    let c : Made = record { asked = x; told = r; after = a } in
    record {
      calls = w.calls ++ c ∷ [];
      asked = map_more (λ c. c.asked) w.calls c ∙ ap (λ ys. ys ++ x ∷ []) w.asked;
      told = map_more (λ c. c.told) w.calls c ∙ ap (λ ys. ys ++ r ∷ []) w.told;
      trail = trail_more Replied s b w.calls c w.trail (subst (λ (m : Moment). Replied s m x r a) (sym w.ends) h);
      ends = after_more b w.calls c;
    }

-- some requests of the list are carried out: from the card c₀ and its board to the card c and its board, the plan and the span as they were
pub record SoFar (m : Model) (from to : ℕ) (c₀ : Card) (board₀ : Facts) (c : Card) (board : Facts) (asked : List Request) (told left₀ left : List Reply) : Type 0 where
  pub plan : c.plan ≡ c₀.plan
  pub span : to ≡ from
  pub carried : Numbered c₀ → Carried (setting_of m from c₀) (moment_of c₀ board₀) asked told (moment_of c board)
  pub rest : left ≡ left₀

numbered_stays : (c₀ c : Card) → c.plan ≡ c₀.plan → Numbered c₀ → Numbered c
numbered_stays c₀ c e h = subst (λ (a : Arrangement). (u : ℕ) → u < a.count → 0 < (get_or a.places u blank).level) (sym e) h

-- one turn of the loop: the request at i is carried out, and its reply is recorded at i
pub so_far_more : (m : Model) (from span span' : ℕ) (c₀ : Card) (board₀ : Facts) (c : Card) (board : Facts) (c' : Card) (board' : Facts)
    (requests : List Request) (replies₀ replies : List Reply) (i : ℕ) (d : Request) (r : Reply)
    → i < length requests → i < length replies
    → SoFar m from span c₀ board₀ c board (take i requests) (take i replies) (drop i replies₀) (drop i replies) → c'.plan ≡ c.plan → span' ≡ span
    → (Numbered c → RequestReplied m span c board (get_or requests i d) r c' board')
    → SoFar m from span' c₀ board₀ c' board' (take (i + 1) requests) (take (i + 1) (set replies i r)) (drop (i + 1) replies₀) (drop (i + 1) (set replies i r))
so_far_more m from span span' c₀ board₀ c board c' board' requests replies₀ replies i d r hx hy w e f h = record {
  plan = e ∙ w.plan;
  span = f ∙ w.span;
  carried = λ n. rw (take_more requests i d hx, take_more_set replies i r hy)
      (carried_more _ _ _ _ (take i requests) (take i replies) (get_or requests i d) r (w.carried n)
      (subst (λ (s : Setting). Replied s (moment_of c board) (get_or requests i d) r (moment_of c' board')) (setting_stays m from span c₀ c w.span w.plan) (h (numbered_stays c₀ c w.plan n))));
  rest = drop-set-lt (i + 1) replies i r (omega arith) ∙ sym (drop-drop 1 i replies) ∙ ap (drop 1) w.rest ∙ drop-drop 1 i replies₀;
}

-- the last turn is done
pub so_far_all : (m : Model) (from span : ℕ) (c₀ : Card) (board₀ : Facts) (c : Card) (board : Facts) (requests : List Request) (replies₀ replies : List Reply) (i : ℕ)
    → i ≡ length requests → SoFar m from span c₀ board₀ c board (take i requests) (take i replies) (drop i replies₀) (drop i replies)
    → SoFar m from span c₀ board₀ c board requests (take (length requests) replies) (drop (length requests) replies₀) (drop (length requests) replies)
so_far_all m from span c₀ board₀ c board requests replies₀ replies i e w =
    subst (λ (xs : List Request). SoFar m from span c₀ board₀ c board xs (take (length requests) replies) (drop (length requests) replies₀) (drop (length requests) replies))
    (take-length requests)
    (subst (λ (n : ℕ). SoFar m from span c₀ board₀ c board (take n requests) (take n replies) (drop n replies₀) (drop n replies)) e w)
