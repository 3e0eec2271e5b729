-- The report of a check, and the call that writes it.
use Rattle.std.specs.Prelude.{◌≡◌, ℕ, ◌<◌, ◌≤◌, ◌⊎◌, List, [], ◌∷◌, ◌++◌, length, Ok, Err, Result}
use Rattle.sheets.specs.Writing.{Wrote}
use Rattle.sheets.specs.declared.fault.Sheet.{Sheet}
use Rattle.sheets.specs.declared.fault.Sheet.TheVariants.{Book, Task}
use Rattle.checks.specs.Faults.{plan_number}
use Rattle.checks.specs.Bytes.{BytesChecked, BytesEndIn}
use Rattle.checks.specs.declared.fault.PlanFault.{PlanFault}
use Rattle.checks.specs.declared.fault.PlanFault.TheVariants.{Sheet as OnSheet, Mismatch, NeedMissing, NoOrder, GoalMissing}
use Rattle.bench.specs.Records.{eight, word_bytes}

abbrev pub code_of_sheet : Sheet → ℕ
code_of_sheet Book = 0
code_of_sheet Task = 1

-- what a refusal names: a sheet's which sheet and the byte, a plan's its values
abbrev pub named_bytes : PlanFault → List ℕ
named_bytes (OnSheet f) = code_of_sheet f.sheet ∷ eight f.place
named_bytes Mismatch = []
named_bytes (NeedMissing level step fact) = eight level ++ (eight step ++ eight fact)
named_bytes (NoOrder level) = eight level
named_bytes (GoalMissing fact) = eight fact

abbrev pub refused_bytes : PlanFault → List ℕ
refused_bytes f = plan_number f ∷ named_bytes f

-- the report of an answer of the check: accepted, with the facts at the end; or refused
abbrev pub Reports : List ℕ → List ℕ → Result (Unit {0}) PlanFault → List ℕ → Type 0
Reports bs ts (Ok u) text = (words : List ℕ) × BytesEndIn bs ts words × (text ≡ 0 ∷ word_bytes words)
Reports bs ts (Err f) text = text ≡ refused_bytes f

-- the report of two sheets
pub record Report (bs ts text : List ℕ) : Type 0 where
  pub answer : Result (Unit {0}) PlanFault
  pub checked : BytesChecked bs ts answer
  pub told : Reports bs ts answer text

-- the call that writes it: its length is answered; to a buffer of fewer than 160 bytes 0, and nothing is written
abbrev pub CheckTold : List ℕ → List ℕ → List ℕ → ℕ → List ℕ → Type 0
CheckTold bs ts before n after =
    ((length before < 160) × (n ≡ 0) × (after ≡ before))
    ⊎ ((160 ≤ length before) × ((text : List ℕ) × Report bs ts text × Wrote before 0 text after n))
