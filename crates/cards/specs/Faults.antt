-- The refusals of a run by number; each case holds the values that it names.
use Rattle.std.specs.Prelude.{◌≡◌, ℕ, [], ◌∷◌}
use Rattle.refusals.specs.Notices.{Notice, Listed}
use Rattle.sheets.specs.Faults.{too_short_number, short_notice}
use Rattle.checks.specs.Faults.{plan_number, plan_notice}
use Rattle.cards.specs.declared.fault.RunFault.{RunFault}
use Rattle.cards.specs.declared.fault.RunFault.TheVariants.{Plan, InHand, SpanTooSmall, NoPlace, WrongState, Unfinished, TooShort}

-- a plan's fault keeps its number and what it names; 18 names the lowest unfinished place that precedes, 19 the needed length
abbrev pub run_number : RunFault → ℕ
run_number (Plan f) = plan_number f
run_number InHand = 14
run_number SpanTooSmall = 15
run_number NoPlace = 16
run_number WrongState = 17
run_number (Unfinished lowest) = 18
run_number (TooShort f) = too_short_number

-- what a fault tells: the number, and the values that it names; a plan's fault keeps what it tells, and so does a buffer that is too short
abbrev pub run_notice : RunFault → Notice
run_notice (Plan f) = plan_notice f
run_notice InHand = record { number = 14; values = [] }
run_notice SpanTooSmall = record { number = 15; values = [] }
run_notice NoPlace = record { number = 16; values = [] }
run_notice WrongState = record { number = 17; values = [] }
run_notice (Unfinished lowest) = record { number = 18; values = lowest ∷ [] }
run_notice (TooShort f) = short_notice f

-- every fault tells its number, and stands on the list of refusals
pub record Numbering : Type 0 where
  pub same : (f : RunFault) → (run_notice f).number ≡ run_number f
  pub listed : (f : RunFault) → Listed (run_notice f)
