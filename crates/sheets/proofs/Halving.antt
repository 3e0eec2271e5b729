-- A look-up by halving in a list of ascending numbers.
use Rattle.std.proofs.Common.{◌≡◌, ℕ, ◌+◌, ◌*◌, ◌<◌, ◌≤◌, false, List, sym, subst, inl, inr, arith}
use Rattle.std.proofs.lemmas.Bool.{cases_Bool, cases_eq, cases_lt}
use Rattle.sheets.specs.Fields.{be16}
use Rattle.sheets.specs.Lists.{among, Rising}
use Rattle.sheets.proofs.Stands.{get_or_numbers_at}
use Rattle.sheets.proofs.Entries.{among_says}

-- the numbers up to one that is smaller, and from one that is greater
module _ (xs : List ℕ) (at n p : ℕ) (up : Rising xs at n) (m : ℕ) (l : m < n) where
  pub all_below : be16 xs (at + 2 * m) < p → (i : ℕ) → i < m + 1 → be16 xs (at + 2 * i) < p
  all_below h i k = elim (cases_eq i m) [
    | inl same ↦ subst (λ v. be16 xs (at + 2 * v) < p) (sym same) h
    | inr other ↦ let u = up i m (omega arith) l in omega arith
  ]

  pub all_above : p < be16 xs (at + 2 * m) → (i : ℕ) → m ≤ i → i < n → p < be16 xs (at + 2 * i)
  all_above h i k g = elim (cases_eq i m) [
    | inl same ↦ subst (λ v. p < be16 xs (at + 2 * v)) (sym same) h
    | inr other ↦ let u = up m i (omega arith) g in omega arith
  ]

-- where these are all, the number is not in the list
pub not_among : (xs : List ℕ) (at n p low high : ℕ) → high ≤ low → ((i : ℕ) → i < low → be16 xs (at + 2 * i) < p)
    → ((i : ℕ) → high ≤ i → i < n → p < be16 xs (at + 2 * i)) → among xs at n p ≡ false
not_among xs at n p low high l below above =
    elim (cases_Bool (among xs at n p)) [
      | inl e ↦
          (let r = among_says xs at n p e in
          let s = get_or_numbers_at xs at n r.0 r.1.0 in
          elim (cases_lt r.0 low) [
            | inl h ↦ absurd (omega (arith, r.1.1, s, below r.0 h))
            | inr h ↦ absurd (omega (arith, r.1.1, s, above r.0 (omega arith) r.1.0))
          ])
      | inr e ↦ e
    ]
