-- The numbers in a part of a sheet.
use Rattle.std.proofs.Common.{◌≡◌, ℕ, zero, suc, ◌+◌, ◌*◌, ◌/◌, ◌≤◌, List, ◌∷◌, length, get_or, refl, ap, ◌∙◌, arith}
use Rattle.std.specs.List.{between}
use Rattle.std.proofs.lemmas.List.Edits.{length-between, get_or-between}
use Rattle.sheets.specs.Fields.{be16}
use Rattle.sheets.specs.Lists.{numbers_at}
use Rattle.sheets.specs.Numbers.{numbers_in}

module _ (xs : List ℕ) (i j : ℕ) where
  pub be16_between : (k : ℕ) → i + k + 2 ≤ j → be16 (between i j xs) k ≡ be16 xs (i + k)
  be16_between k l =
      let p = get_or-between xs i j k 0 (omega arith) in
      let q = get_or-between xs i j (k + 1) 0 (omega arith) in
      let z : i + (k + 1) ≡ i + k + 1 = omega arith in
      ap (λ v. v * 256 + get_or (between i j xs) (k + 1) 0) p ∙ ap (λ v. get_or xs (i + k) 0 * 256 + v) (q ∙ ap (λ v. get_or xs v 0) z)

  pub numbers_between : (k n : ℕ) → i + k + 2 * n ≤ j → numbers_at (between i j xs) k n ≡ numbers_at xs (i + k) n
  numbers_between k zero l = refl
  numbers_between k (suc n) l =
      let z : i + (k + 2) ≡ i + k + 2 = omega arith in
      ap (λ v. v ∷ numbers_at (between i j xs) (k + 2) n) (be16_between k (omega arith))
      ∙ ap (λ v. be16 xs (i + k) ∷ v) (numbers_between (k + 2) n (omega arith) ∙ ap (λ v. numbers_at xs v n) z)

-- the numbers in the bytes of n entries
pub numbers_part : (xs : List ℕ) (i n j : ℕ) → j ≡ i + 2 * n → j ≤ length xs → numbers_in (between i j xs) ≡ numbers_at xs i n
numbers_part xs i n j e l =
    let k : length (between i j xs) / 2 ≡ n = omega (arith, length-between xs i j l) in
    let z : i + 0 ≡ i = omega arith in
    ap (numbers_at (between i j xs) 0) k ∙ numbers_between xs i j 0 n (omega arith) ∙ ap (λ v. numbers_at xs v n) z
