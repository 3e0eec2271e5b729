-- The refusals of a sheet by number, and what a fault tells.
use Rattle.std.specs.Prelude.{◌≡◌, ℕ, [], ◌∷◌}
use Rattle.refusals.specs.Notices.{Notice, Listed}
use Rattle.sheets.specs.declared.fault.Sheet.{Sheet}
use Rattle.sheets.specs.declared.fault.Refusal.{Refusal}
use Rattle.sheets.specs.declared.fault.Refusal.TheVariants.{Short, OverLimit, Misplaced, OutOfRange, NotAbove, AddedToo, EmptyLevel, WrongTotal, Trailing}
use Rattle.sheets.specs.declared.fault.Refused.{Refused}
use Rattle.sheets.specs.declared.fault.SheetFault.{SheetFault}
use Rattle.sheets.specs.declared.writing.TooShort.{TooShort}
use Rattle.sheets.specs.declared.lengths.TooLong.{TooLong}

-- the number of each refusal
abbrev pub number : Refusal → ℕ
number Short = 1
number OverLimit = 2
number Misplaced = 3
number OutOfRange = 4
number NotAbove = 5
number AddedToo = 6
number EmptyLevel = 7
number WrongTotal = 8
number Trailing = 9

-- a fault of a sheet names its byte place
abbrev pub sheet_notice : SheetFault → Notice
sheet_notice f = record { number = number f.refusal; values = f.place ∷ [] }

-- the number of a buffer that is lent too short, and of a sheet that is too long
abbrev pub too_short_number : ℕ
too_short_number = 19

abbrev pub too_long_number : ℕ
too_long_number = 19

-- a buffer that is too short names the length that it needs; a sheet that is too long, its length
abbrev pub short_notice : TooShort → Notice
short_notice e = record { number = too_short_number; values = e.needed ∷ [] }

abbrev pub long_notice : TooLong → Notice
long_notice e = record { number = too_long_number; values = e.length ∷ [] }

-- a refusal on a sheet of a kind, at its byte place
abbrev pub fault_on : Sheet → Refused → SheetFault
fault_on s r = record { sheet = s; refusal = r.refusal; place = r.place }

-- every fault stands on the list of refusals, and each refusal of a sheet has a number of its own
pub record Numbering : Type 0 where
  pub sheets : (f : SheetFault) → Listed (sheet_notice f)
  pub short : (e : TooShort) → Listed (short_notice e)
  pub long : (e : TooLong) → Listed (long_notice e)
  pub own : (r s : Refusal) → number r ≡ number s → r ≡ s
