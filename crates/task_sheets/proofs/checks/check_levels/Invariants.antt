use Rattle.std.proofs.Common.{◌≡◌, ◌≤◌}
use Rattle.sheets.specs.Verdicts.{fine}
use Rattle.task_sheets.specs.Layout.{levels, level_begins_at, steps_before}
use Rattle.task_sheets.proofs.checks.check_levels.Given as goal

abbrev pub invariant-loop-i : goal.invariant-loop-i
invariant-loop-i l = record {
  passed : levels l.bytes l._i ≡ fine;
  at : l.reached.at ≡ level_begins_at l.bytes l._i;
  steps : l.reached.steps ≡ steps_before l.bytes l._i;
  few : l.reached.steps ≤ l.counts.total;
}
