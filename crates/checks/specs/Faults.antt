-- The refusals of a plan by number; each case holds the values that it names.
use Rattle.std.specs.Prelude.{◌≡◌, ℕ, [], ◌∷◌}
use Rattle.refusals.specs.Notices.{Notice, Listed}
use Rattle.sheets.specs.Faults.{number, sheet_notice}
use Rattle.checks.specs.declared.fault.PlanFault.{PlanFault}
use Rattle.checks.specs.declared.fault.PlanFault.TheVariants.{Sheet, Mismatch, NeedMissing, NoOrder, GoalMissing}

-- a sheet's fault keeps its number and its byte place; 11 names level, step and fact, 12 the level, 13 the fact
abbrev pub plan_number : PlanFault → ℕ
plan_number (Sheet f) = number f.refusal
plan_number Mismatch = 10
plan_number (NeedMissing level step fact) = 11
plan_number (NoOrder level) = 12
plan_number (GoalMissing fact) = 13

-- what a fault tells: the number, and the values that it names; a sheet's fault keeps what it tells
abbrev pub plan_notice : PlanFault → Notice
plan_notice (Sheet f) = sheet_notice f
plan_notice Mismatch = record { number = 10; values = [] }
plan_notice (NeedMissing level step fact) = record { number = 11; values = level ∷ step ∷ fact ∷ [] }
plan_notice (NoOrder level) = record { number = 12; values = level ∷ [] }
plan_notice (GoalMissing fact) = record { number = 13; values = fact ∷ [] }

-- every fault tells its number, and stands on the list of refusals
pub record Numbering : Type 0 where
  pub same : (f : PlanFault) → (plan_notice f).number ≡ plan_number f
  pub listed : (f : PlanFault) → Listed (plan_notice f)
