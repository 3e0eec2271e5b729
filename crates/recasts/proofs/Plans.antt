-- The bytes of lists and of a plan, number by number and level by level.
use Rattle.std.proofs.Common.{◌≡◌, ℕ, zero, suc, ◌+◌, ◌*◌, ◌≤◌, Bool, true, false, cond, List, [], ◌∷◌, ◌++◌, length, sym, refl, ap, ◌∙◌, inl, inr, add-one, arith, length-append}
use Rattle.std.proofs.lemmas.List.{append_assoc, append-nil}
use Rattle.std.proofs.lemmas.Bool.{cases_lt}
use Rattle.books.specs.Book.{Facts}
use Rattle.sheets.specs.Fields.{two, twos}
use Rattle.task_sheets.specs.Content.{list_bytes, plan_bytes, total}
use Rattle.task_sheets.proofs.Decodes.{length_list_bytes}
use Rattle.books.specs.Listed.{members}
use Rattle.recasts.specs.Layers.{steps_at, rows_at}
use Rattle.recasts.proofs.Rows.{rows_more}

-- the numbers of a set, one more
twos_append : (ps qs : List ℕ) → twos (ps ++ qs) ≡ twos ps ++ twos qs
twos_append [] qs = refl
twos_append (p ∷ ps) qs = ap (λ r. two p ++ r) (twos_append ps qs)

twos_one : (b : Bool) (p : ℕ) → twos (cond b (p ∷ []) []) ≡ cond b (two p) []
twos_one true p = refl
twos_one false p = refl

pub twos_more : (P : Facts) (p : ℕ) → twos (members P (p + 1)) ≡ twos (members P p) ++ cond (P p) (two p) []
twos_more P p =
    ap (λ n. twos (members P n)) (add-one p) ∙ twos_append (members P p) (cond (P p) (p ∷ []) [])
    ∙ ap (λ r. twos (members P p) ++ r) (twos_one (P p) p)

-- one level more
pub plan_push : (plan : List (List ℕ)) (xs : List ℕ) → plan_bytes (plan ++ (xs ∷ [])) ≡ plan_bytes plan ++ list_bytes xs
plan_push [] xs = append-nil (list_bytes xs)
plan_push (ys ∷ plan) xs = ap (λ r. list_bytes ys ++ r) (plan_push plan xs) ∙ sym (append_assoc (list_bytes ys) (plan_bytes plan) (list_bytes xs))

pub length_plan : (plan : List (List ℕ)) → length (plan_bytes plan) ≡ 2 * length plan + 2 * total plan
length_plan [] = refl
length_plan (ys ∷ plan) =
    let a = length-append (list_bytes ys) (plan_bytes plan) in let b = length_list_bytes ys in let c = length_plan plan in omega arith

module _ (step stratum : ℕ → ℕ) (n : ℕ) where
  -- the bytes of the first k strata grow with k
  pub length_more : (k : ℕ) → length (plan_bytes (rows_at step stratum n (k + 1))) ≡ length (plan_bytes (rows_at step stratum n k)) + (2 + 2 * length (members (steps_at step stratum k n) 512))
  length_more k =
      let row = members (steps_at step stratum k n) 512 in
      ap (λ p. length (plan_bytes p)) (rows_more step stratum n k) ∙ ap length (plan_push (rows_at step stratum n k) row)
      ∙ length-append (plan_bytes (rows_at step stratum n k)) (list_bytes row) ∙ ap (λ x. length (plan_bytes (rows_at step stratum n k)) + x) (length_list_bytes row)

  pub length_up : (i k : ℕ) → i ≤ k → length (plan_bytes (rows_at step stratum n i)) ≤ length (plan_bytes (rows_at step stratum n k))
  length_up i zero h = let z : i ≡ 0 = omega arith in rw z (omega arith)
  length_up i (suc k) h = elim (cases_lt k i) [
    | inl l ↦ let z : i ≡ suc k = omega arith in rw z (omega arith)
    | inr l ↦ (let u = length_up i k l in
        let row = members (steps_at step stratum k n) 512 in
        let a = ap length (plan_push (rows_at step stratum n k) row) in
        let b = length-append (plan_bytes (rows_at step stratum n k)) (list_bytes row) in
        omega arith)
  ]
