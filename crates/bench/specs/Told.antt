-- The number that a call answers.
use Rattle.std.specs.Prelude.{ℕ, ◌+◌, ◌-◌, ◌^◌, min, Ok, Err, Result}
use Rattle.sheets.specs.declared.writing.TooShort.{TooShort}
use Rattle.cards.specs.Faults.{run_notice}
use Rattle.cards.specs.declared.fault.RunFault.{RunFault}
use Rattle.cards.specs.declared.fault.RunFault.TheVariants.{Plan, InHand, SpanTooSmall, NoPlace, WrongState, Unfinished, TooShort as Short}

-- a buffer is too short: 2 ^ 32 and the length that is needed; the sum stops at the top of its type
abbrev pub short : ℕ → ℕ
short n = min (2 ^ 32 + n) (2 ^ 64 - 1)

-- refused: 2 ^ 33 and the refusal's number
abbrev pub refused : RunFault → ℕ
refused f = 2 ^ 33 + (run_notice f).number

-- a length that was written, or is needed
abbrev pub told_length : Result ℕ TooShort → ℕ
told_length (Ok n) = n
told_length (Err e) = short e.needed

abbrev pub told_recast : Result ℕ RunFault → ℕ
told_recast (Ok n) = n
told_recast (Err (Short e)) = short e.needed
told_recast (Err (Plan f)) = refused (Plan f)
told_recast (Err InHand) = refused InHand
told_recast (Err SpanTooSmall) = refused SpanTooSmall
told_recast (Err NoPlace) = refused NoPlace
told_recast (Err WrongState) = refused WrongState
told_recast (Err (Unfinished u)) = refused (Unfinished u)

-- a run's buffer that is too short has one number, whatever length is needed
abbrev pub told_run : Result ℕ RunFault → ℕ
told_run (Ok n) = n
told_run (Err (Short e)) = 2 ^ 32
told_run (Err (Plan f)) = refused (Plan f)
told_run (Err InHand) = refused InHand
told_run (Err SpanTooSmall) = refused SpanTooSmall
told_run (Err NoPlace) = refused NoPlace
told_run (Err WrongState) = refused WrongState
told_run (Err (Unfinished u)) = refused (Unfinished u)
