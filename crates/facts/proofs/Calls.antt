-- Arrays that are made by calls of a closure at each place.
use Rattle.std.proofs.Common.{◌≡◌, ℕ, zero, suc, ◌+◌, ◌<◌, ◌≤◌, List, sym, subst, ⊎_elim, arith}
use denote.Param.Members.{Mut, Called}
use Rattle.std.proofs.lemmas.Bool.{cases_eq}
use Rattle.std.specs.Array.{IsFromFnResult, IsFromFnResultFrom}
use Rattle.std.specs.Prelude.{slice_index_or}

-- where a call leaves the closure as it was, each call's answer stands at its place
module _ {F B : Type 0} (g : Mut F (ℕ × Unit {0}) B) (f : F) (P : ℕ → B → Type 0)
    (one : (i : ℕ) (y : B) (q : F) → Called g f (i, tt) y q → (q ≡ f) × P i y) (ys : List B) (d : B) where
  answers_from : (n i k : ℕ) → IsFromFnResultFrom g f ys i n → i ≤ k → k < i + n → P k (slice_index_or ys k d)
  answers_from zero i k h l r = absurd (omega arith)
  answers_from (suc n) i k (q, y, at, call, rest) l r =
      let p = one i y q call in
      ⊎_elim
      (λ (e : k ≡ i). rw e (subst (P i) (sym (at.1 d)) p.1))
      (λ (ne : k ≡ i → ⊥). answers_from n (i + 1) k (subst (λ q. IsFromFnResultFrom g q ys (i + 1) n) p.0 rest) (omega arith) (omega arith))
      (cases_eq k i)

  pub answers_at : (n k : ℕ) → IsFromFnResult g f ys n → k < n → P k (slice_index_or ys k d)
  answers_at n k h l = answers_from n 0 k h.each (omega arith) (omega arith)
