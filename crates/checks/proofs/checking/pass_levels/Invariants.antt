use Rattle.std.proofs.Common.{◌≡◌, drop}
use Rattle.task_sheets.specs.Opened.{task_of, rest}
use Rattle.checks.specs.Drafts.{Drafted}
use Rattle.checks.proofs.checking.pass_levels.Given as goal

abbrev pub invariant-loop-i : goal.invariant-loop-i
invariant-loop-i g l = record {
  to_come : drop l.i-iterator.count (task_of l.task).levels ≡ rest l.i-iterator.iter;
  passed : Drafted (g.B.Book.model l.book) (task_of l.task) l.i-iterator.count l.facts l.draft.items;
}
