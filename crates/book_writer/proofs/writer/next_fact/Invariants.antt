use Rattle.std.proofs.Common.{◌≡◌, ℕ, ◌<◌, ◌≤◌, false}
use Rattle.books.specs.Book.{Facts}
use Rattle.book_writer.specs.Parts.{Tells}
use Rattle.book_writer.proofs.writer.next_fact.Given as goal

abbrev pub invariant-loop-p : goal.invariant-loop-p
invariant-loop-p g l =
    (set : Facts) → Tells (goal.F-post g l.is_in) l.facts set → (q : ℕ) → l.from ≤ q → q < l.p → set q ≡ false
