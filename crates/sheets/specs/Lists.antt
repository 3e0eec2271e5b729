-- Lists of a sheet: two-byte numbers that ascend.
use Rattle.std.specs.Prelude.{ℕ, zero, suc, ◌+◌, ◌-◌, ◌*◌, ◌<◌, Bool, false, ◌||◌, List, [], ◌∷◌, length, ◌==◌, nat_lt, slice_index}
use Rattle.sheets.specs.declared.fault.Refusal.TheVariants.{OutOfRange, NotAbove}
use Rattle.sheets.specs.Verdicts.{Verdict, must, ◌then◌, up_to}
use Rattle.sheets.specs.Fields.{be16, field}

-- entry j of a list that begins at a byte: it is below the bound and above the entry before it
abbrev pub entry : List ℕ → ℕ → ℕ → ℕ → Verdict
entry xs bound at j =
    field xs (at + 2 * j) 2
    then must (nat_lt (be16 xs (at + 2 * j)) bound) OutOfRange (at + 2 * j)
    then must (j == 0 || nat_lt (be16 xs (at + 2 * j - 2)) (be16 xs (at + 2 * j))) NotAbove (at + 2 * j)

-- n entries of a list that begins at a byte
abbrev pub entries : List ℕ → ℕ → ℕ → ℕ → Verdict
entries xs bound at n = up_to (entry xs bound at) n

-- the n numbers of the list that begins at a byte
abbrev pub numbers_at : List ℕ → ℕ → ℕ → List ℕ
numbers_at xs at zero = []
numbers_at xs at (suc n) = be16 xs at ∷ numbers_at xs (at + 2) n

-- whether p is among the n numbers of the list that begins at a byte
abbrev pub among : List ℕ → ℕ → ℕ → ℕ → Bool
among xs at zero p = false
among xs at (suc n) p = among xs at n p || be16 xs (at + 2 * n) == p

-- the n numbers of the list that begins at a byte ascend
abbrev pub Rising : List ℕ → ℕ → ℕ → Type 0
Rising xs at n = (i j : ℕ) → i < j → j < n → be16 xs (at + 2 * i) < be16 xs (at + 2 * j)

-- numbers below a bound that ascend
pub record Ascending (bound : ℕ) (ps : List ℕ) : Type 0 where
  pub below : (j : ℕ) → j < length ps → slice_index ps j < bound
  pub ascends : (j : ℕ) → suc j < length ps → slice_index ps j < slice_index ps (suc j)
