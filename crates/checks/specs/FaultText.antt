-- A plan's fault in words.
use Rattle.std.specs.Prelude.{ℕ, List, ◌++◌, codes, decimal}
use Rattle.sheets.specs.FaultText.{text_of_fault}
use Rattle.checks.specs.declared.fault.PlanFault.{PlanFault}
use Rattle.checks.specs.declared.fault.PlanFault.TheVariants.{Sheet, Mismatch, NeedMissing, NoOrder, GoalMissing}

-- the refusal's number, and the values that it names
abbrev pub text_of_plan_fault : PlanFault → List ℕ
text_of_plan_fault (Sheet f) = text_of_fault f
text_of_plan_fault Mismatch = codes "refused 10"
text_of_plan_fault (NeedMissing level step fact) = codes "refused 11 level " ++ (decimal level ++ (codes " step " ++ (decimal step ++ (codes " fact " ++ decimal fact))))
text_of_plan_fault (NoOrder level) = codes "refused 12 level " ++ decimal level
text_of_plan_fault (GoalMissing fact) = codes "refused 13 fact " ++ decimal fact
