use Rattle.std.proofs.Common.{◌≡◌, length}
use Rattle.books.specs.Book.{Facts}
use Rattle.books.specs.Listed.{members}
use Rattle.book_writer.specs.Parts.{Tells}
use Rattle.book_writer.proofs.writer.count_facts.Given as goal

abbrev pub invariant-loop-p : goal.invariant-loop-p
invariant-loop-p g l = (set : Facts) → Tells (goal.F-post g l.is_in) l.facts set → l.n ≡ length (members set l.p)
