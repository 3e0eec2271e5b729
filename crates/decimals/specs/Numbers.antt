-- Numbers in decimal digits: what the digits mean.
use Rattle.std.specs.Prelude.{◌≡◌, ℕ, ◌+◌, ◌-◌, ◌*◌, ◌^◌, ◌<◌, ◌≤◌, List, [], ◌∷◌, length, decimal, slice_index_or}

-- a digit is one of the bytes 48 to 57
abbrev pub Digits : List ℕ → Type 0
Digits [] = Unit {0}
Digits (d ∷ ds) = ((48 ≤ d) × (d ≤ 57)) × Digits ds

-- the digits weighed by powers of ten
abbrev pub weighed : List ℕ → ℕ
weighed [] = 0
weighed (d ∷ ds) = (d - 48) * 10 ^ length ds + weighed ds

-- digits that say the number n: there are some, they weigh n, and where the first is 0 it is the only one
pub record Says (n : ℕ) (ds : List ℕ) : Type 0 where
  pub some : 0 < length ds
  pub digits : Digits ds
  pub weighs : weighed ds ≡ n
  pub lean : slice_index_or ds 0 0 ≡ 48 → length ds ≡ 1

-- the decimal digits of a number, and no others, say it
pub record Decimal (n : ℕ) : Type 0 where
  pub says : Says n (decimal n)
  pub only : (ds : List ℕ) → Says n ds → ds ≡ decimal n

-- this is so for every number that a program holds
abbrev pub Decimals : Type 0
Decimals = (n : ℕ) → n < 2 ^ 64 → Decimal n
