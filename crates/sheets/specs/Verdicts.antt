-- Verdicts: a sheet is fine so far, or has its first refusal.
use Rattle.std.specs.Prelude.{◌≡◌, ℕ, zero, suc, Bool, true, false, Ok, Err, Result}
use Rattle.sheets.specs.declared.fault.Sheet.{Sheet}
use Rattle.sheets.specs.declared.fault.Refusal.{Refusal}
use Rattle.sheets.specs.declared.fault.Refused.{Refused}
use Rattle.sheets.specs.declared.fault.SheetFault.{SheetFault}
use Rattle.sheets.specs.Faults.{fault_on}

abbrev pub Verdict : Type 0
Verdict = Result (Unit {0}) Refused

abbrev pub fine : Verdict
fine = Ok tt

-- a refusal at a byte place
abbrev pub refused : Refusal → ℕ → Refused
refused r n = record { refusal = r; place = n }

-- one test: where it fails, that refusal at that place
abbrev pub must : Bool → Refusal → ℕ → Verdict
must true r n = Ok tt
must false r n = Err (refused r n)

-- two parts, one after the other: the first refusal stands
infixr 5 ◌then◌
abbrev pub ◌then◌ : Verdict → Verdict → Verdict
Ok u then w = w
Err f then w = Err f

-- the parts 0, 1, .. below n, one after the other
abbrev pub up_to : (ℕ → Verdict) → ℕ → Verdict
up_to v zero = Ok tt
up_to v (suc n) = up_to v n then v n

-- what a reader answers: a value of which P holds where the verdict is fine, else the verdict's refusal
abbrev pub Gives : {X : Type 0} → Result X Refused → Verdict → (X → Type 0) → Type 0
Gives (Ok x) v P = (v ≡ fine) × P x
Gives (Err e) v P = v ≡ Err e

-- the verdict on a sheet of a kind, as a fault names it
abbrev pub verdict_on : Sheet → Verdict → Result (Unit {0}) SheetFault
verdict_on s (Ok u) = Ok u
verdict_on s (Err r) = Err (fault_on s r)
