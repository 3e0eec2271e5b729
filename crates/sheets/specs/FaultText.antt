-- Faults in words.
use Rattle.std.specs.Prelude.{ℕ, List, ◌++◌, codes, decimal}
use Rattle.sheets.specs.declared.fault.SheetFault.{SheetFault}
use Rattle.sheets.specs.Faults.{number, too_long_number}

-- the refusal's number, and the byte that it names
abbrev pub text_of_fault : SheetFault → List ℕ
text_of_fault f = codes "refused " ++ (decimal (number f.refusal) ++ (codes " at byte " ++ decimal f.place))

-- the refusal's number alone
abbrev pub text_of_too_long : List ℕ
text_of_too_long = codes "refused " ++ decimal too_long_number
