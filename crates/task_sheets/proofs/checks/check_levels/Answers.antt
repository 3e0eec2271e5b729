use Rattle.std.proofs.Common.{arith}
use Rattle.std.proofs.lemmas.Result.{err_from_is_err_and}
use Rattle.sheets.proofs.Verdicts.{up_to_stops}
use Rattle.task_sheets.proofs.Sound.{level_in}
use Rattle.task_sheets.proofs.checks.check_levels.Goals as goal

pub returns-in_err-reached : goal.returns-in_err-reached
returns-in_err-reached c =
    let p = err_from_is_err_and c.from_residual.result c.from_residual.ensures.1 in
    let i = c.loop-i.invariant in
    let h = c.in_err-reached.ensures in
    rw (p.1, p.2)
    (up_to_stops (level_in c.args.bytes.now) c.loop-i._i c.args.counts.levels _ (omega arith) i.passed
    (rw (← c.requires.steps_value, ← c.requires.total_value, ← i.steps, ← i.at) h))
