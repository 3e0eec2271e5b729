-- A plan's fault, told with the sheet that it is about.
use Rattle.std.specs.Prelude.{ℕ, List, ◌++◌, codes}
use Rattle.checks.specs.FaultText.{text_of_plan_fault}
use Rattle.checks.specs.declared.fault.PlanFault.{PlanFault}
use Rattle.checks.specs.declared.fault.PlanFault.TheVariants.{Sheet, Mismatch, NeedMissing, NoOrder, GoalMissing}
use Rattle.sheets.specs.declared.fault.Sheet.{Sheet as Kind}
use Rattle.sheets.specs.declared.fault.Sheet.TheVariants.{Book, Task}

abbrev pub sheet_words : Kind → List ℕ
sheet_words Book = codes " of the book sheet"
sheet_words Task = codes " of the task sheet"

-- the fault's own text, and which sheet it is about
abbrev pub told_text : PlanFault → List ℕ
told_text (Sheet f) = text_of_plan_fault (Sheet f) ++ sheet_words f.sheet
told_text Mismatch = text_of_plan_fault Mismatch
told_text (NeedMissing level step fact) = text_of_plan_fault (NeedMissing level step fact)
told_text (NoOrder level) = text_of_plan_fault (NoOrder level)
told_text (GoalMissing fact) = text_of_plan_fault (GoalMissing fact)
