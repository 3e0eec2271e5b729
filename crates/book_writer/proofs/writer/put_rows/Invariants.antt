use Rattle.std.proofs.Common.{◌≡◌, ◌+◌, ◌*◌, length}
use Rattle.sheets.specs.Writers.{Writes}
use Rattle.book_sheets.specs.Content.{step_rows, all_lists, steps_in}
use Rattle.book_writer.proofs.writer.put_rows.Given as goal

abbrev pub invariant-loop-a : goal.invariant-loop-a
invariant-loop-a g l =
    Writes l.initial.out (step_rows (12 + 11 * l.steps) (steps_in (g.B.Book.model l.book) l.a)) l.out
    × (l.lists ≡ 12 + 11 * l.steps + length (all_lists (steps_in (g.B.Book.model l.book) l.a)))
