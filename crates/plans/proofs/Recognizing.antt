-- Recognition level by level: level i passes from the final facts of the levels before it.
use Rattle.std.proofs.Common.{◌≡◌, ℕ, zero, suc, ◌+◌, ◌<◌, List, [], ◌∷◌, ◌++◌, length, get_or, take, sym, refl, ap, ◌∙◌, subst, arith}
use Rattle.std.proofs.lemmas.List.{take_more}
use Rattle.books.specs.Book.{Model, Facts}
use Rattle.plans.specs.Steps.{passed}
use Rattle.plans.specs.Plans.{Passes, Recognized, finally}
use Rattle.plans.specs.Laws.{Recognition}

module _ (m : Model) where
  -- one level more at the end
  pub finally_push : (E : Facts) (plan : List (List ℕ)) (xs : List ℕ) → finally m E (plan ++ xs ∷ []) ≡ passed m (finally m E plan) xs
  finally_push E [] xs = refl
  finally_push E (ys ∷ plan) xs = finally_push (passed m E ys) plan xs

  -- the facts after i + 1 levels
  pub finally_more : (E : Facts) (plan : List (List ℕ)) (i : ℕ) → i < length plan
      → finally m E (take (i + 1) plan) ≡ passed m (finally m E (take i plan)) (get_or plan i [])
  finally_more E plan i l = ap (finally m E) (take_more plan i [] l) ∙ finally_push E (take i plan) (get_or plan i [])

  pub recognized_push : (E : Facts) (plan : List (List ℕ)) (xs : List ℕ) → Recognized m E plan → Passes m (finally m E plan) xs → Recognized m E (plan ++ xs ∷ [])
  recognized_push E [] xs r q = (q, tt)
  recognized_push E (ys ∷ plan) xs r q = (r.0, recognized_push (passed m E ys) plan xs r.1 q)

  -- one level more passes
  pub recognized_more : (E : Facts) (plan : List (List ℕ)) (i : ℕ) → i < length plan → Recognized m E (take i plan)
      → Passes m (finally m E (take i plan)) (get_or plan i []) → Recognized m E (take (i + 1) plan)
  recognized_more E plan i l r q = subst (Recognized m E) (sym (take_more plan i [] l)) (recognized_push E (take i plan) (get_or plan i []) r q)

  -- every level of a recognized plan passes
  pub level_passes : (E : Facts) (plan : List (List ℕ)) → Recognized m E plan → (i : ℕ) → i < length plan → Passes m (finally m E (take i plan)) (get_or plan i [])
  level_passes E [] r i l = absurd (omega arith)
  level_passes E (xs ∷ plan) r zero l = r.0
  level_passes E (xs ∷ plan) r (suc i) l = level_passes (passed m E xs) plan r.1 i (omega arith)

  -- a plan all of whose levels pass is recognized
  pub recognized_all : (E : Facts) (plan : List (List ℕ)) → ((i : ℕ) → i < length plan → Passes m (finally m E (take i plan)) (get_or plan i [])) → Recognized m E plan
  recognized_all E [] f = tt
  recognized_all E (xs ∷ plan) f = (f 0 (omega arith), recognized_all (passed m E xs) plan (λ i l. f (suc i) (omega arith)))

pub recognition : Recognition
recognition m E plan = (level_passes m E plan, recognized_all m E plan)
