use Rattle.std.proofs.Common.{◌≡◌, ◌+◌, ◌*◌, ◌≤◌, length}
use Rattle.book_sheets.specs.Content.{all_lists, steps_in}
use Rattle.book_writer.proofs.writer.sheet_length.Given as goal

abbrev pub invariant-loop-a : goal.invariant-loop-a
invariant-loop-a g l =
    (l.length ≡ 12 + 11 * l.steps + length (all_lists (steps_in (g.B.Book.model l.book) l.a)))
    × (l.length ≤ 5644 + 1530 * l.a)
