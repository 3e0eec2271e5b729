use Rattle.std.proofs.Common.{◌≡◌}
use Rattle.task_sheets.specs.Layout.{level_begins_at}
use Rattle.task_sheets.specs.Opened.{bytes_of}
use Rattle.task_sheets.proofs.task_sheet.TaskSheet.level_at.Given as goal

abbrev pub invariant-loop-k : goal.invariant-loop-k
invariant-loop-k l = l.at ≡ level_begins_at (bytes_of l.self) l._k
