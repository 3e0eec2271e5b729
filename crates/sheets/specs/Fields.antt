-- Fields of a sheet: unsigned numbers of one, two, four or eight bytes, the highest byte first.
use Rattle.std.specs.Prelude.{ℕ, ◌+◌, ◌*◌, ◌/◌, ◌%◌, List, [], ◌∷◌, ◌++◌, length, ◌==◌, nat_le, slice_index}
use Rattle.sheets.specs.declared.fault.Refusal.TheVariants.{Short, OverLimit, Misplaced}
use Rattle.sheets.specs.Verdicts.{Verdict, must}

-- the number in the two bytes, and in the four bytes, from byte i on
abbrev pub be16 : List ℕ → ℕ → ℕ
be16 xs i = slice_index xs i * 256 + slice_index xs (i + 1)

abbrev pub be32 : List ℕ → ℕ → ℕ
be32 xs i = slice_index xs i * 16777216 + slice_index xs (i + 1) * 65536 + slice_index xs (i + 2) * 256 + slice_index xs (i + 3)

-- the two bytes, and the four bytes, that say a number
abbrev pub two : ℕ → List ℕ
two n = n / 256 ∷ n % 256 ∷ []

abbrev pub four : ℕ → List ℕ
four n = n / 16777216 ∷ n / 65536 % 256 ∷ n / 256 % 256 ∷ n % 256 ∷ []

-- the same of eight bytes
abbrev pub be64 : List ℕ → ℕ → ℕ
be64 xs i = be32 xs i * 4294967296 + be32 xs (i + 4)

abbrev pub eight : ℕ → List ℕ
eight n =
    n / 72057594037927936 ∷ n / 281474976710656 % 256 ∷ n / 1099511627776 % 256 ∷ n / 4294967296 % 256 ∷ n / 16777216 % 256 ∷ n / 65536 % 256 ∷ n / 256 % 256 ∷ n % 256 ∷ []

-- two bytes for each number of a list
abbrev pub twos : List ℕ → List ℕ
twos [] = []
twos (p ∷ ps) = two p ++ twos ps

-- a field of a width stands whole in the sheet; else the place is the sheet's length
abbrev pub field : List ℕ → ℕ → ℕ → Verdict
field xs at width = must (nat_le (at + width) (length xs)) Short (length xs)

-- a number, in the field at a place, is at most a limit
abbrev pub limit : ℕ → ℕ → ℕ → Verdict
limit n most at = must (nat_le n most) OverLimit at

-- an offset, in the field at a place, is where its part begins
abbrev pub offset : List ℕ → ℕ → ℕ → Verdict
offset xs at begins = must (be32 xs at == begins) Misplaced at
