-- Numbers that are read where they lie.
use Rattle.std.specs.Prelude.{◌≡◌, ℕ, ◌/◌, ◌<◌, ◌≤◌, Bool, List, length, Some, None, Option, ◌==◌, slice_index}
use Rattle.std.specs.List.{list_any}
use Rattle.sheets.specs.declared.numbers.Numbers.{Numbers}
use Rattle.sheets.specs.Fields.{be16}
use Rattle.sheets.specs.Lists.{numbers_at}

-- the numbers in bytes, two bytes to each
abbrev pub numbers_in : List ℕ → List ℕ
numbers_in bs = numbers_at bs 0 (length bs / 2)

abbrev pub numbers_of : Numbers → List ℕ
numbers_of n = numbers_in n.bytes.now

-- number j of a list, and none past its end
abbrev pub Picked : List ℕ → ℕ → Option ℕ → Type 0
Picked ps j None = length ps ≤ j
Picked ps j (Some p) = (j < length ps) × (p ≡ slice_index ps j)

-- the number that two bytes say
abbrev pub number_in : List ℕ → ℕ
number_in pair = be16 pair 0

-- numbers that ascend
abbrev pub Ascends : List ℕ → Type 0
Ascends ps = (i j : ℕ) → i < j → j < length ps → slice_index ps i < slice_index ps j

-- whether a number is in a list
abbrev pub has_number : List ℕ → ℕ → Bool
has_number ps p = list_any (λ q. p == q) ps
