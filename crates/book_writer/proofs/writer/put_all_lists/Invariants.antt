use Rattle.sheets.specs.Writers.{Writes}
use Rattle.book_sheets.specs.Content.{all_lists, steps_in}
use Rattle.book_writer.proofs.writer.put_all_lists.Given as goal

abbrev pub invariant-loop-a : goal.invariant-loop-a
invariant-loop-a g l = Writes l.initial.out (all_lists (steps_in (g.B.Book.model l.book) l.a)) l.out
