-- How long a sheet may be.
use Rattle.std.specs.Prelude.{◌≡◌, ℕ, ◌<◌, ◌≤◌, List, length, Ok, Err, Result}
use Rattle.sheets.specs.declared.lengths.TooLong.{TooLong}

-- the longest sheet that is opened
abbrev pub longest : ℕ
longest = 65536

-- bytes are opened where they are at most so many; else their length is named
abbrev pub KeepsLength : List ℕ → Result (Unit {0}) TooLong → Type 0
KeepsLength bs (Ok u) = length bs ≤ longest
KeepsLength bs (Err e) = (longest < length bs) × (e.length ≡ length bs)
