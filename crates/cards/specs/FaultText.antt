-- A run's fault in words.
use Rattle.std.specs.Prelude.{ℕ, List, ◌++◌, codes, decimal}
use Rattle.checks.specs.FaultText.{text_of_plan_fault}
use Rattle.cards.specs.declared.fault.RunFault.{RunFault}
use Rattle.cards.specs.declared.fault.RunFault.TheVariants.{Plan, InHand, SpanTooSmall, NoPlace, WrongState, Unfinished, TooShort}

-- the refusal's number, and the value that it names
abbrev pub text_of_run_fault : RunFault → List ℕ
text_of_run_fault (Plan f) = text_of_plan_fault f
text_of_run_fault InHand = codes "refused 14"
text_of_run_fault SpanTooSmall = codes "refused 15"
text_of_run_fault NoPlace = codes "refused 16"
text_of_run_fault WrongState = codes "refused 17"
text_of_run_fault (Unfinished lowest) = codes "refused 18 " ++ decimal lowest
text_of_run_fault (TooShort f) = codes "refused 19 " ++ decimal f.needed
