use Rattle.std.proofs.Common.{◌-◌, ◌≤◌}
use Rattle.books.specs.Book.{Facts}
use Rattle.books.specs.Listed.{members}
use Rattle.sheets.specs.Fields.{twos}
use Rattle.sheets.specs.Writers.{Writes}
use Rattle.book_writer.specs.Parts.{Tells}
use Rattle.book_writer.proofs.writer.put_facts.Given as goal

abbrev pub invariant-loop-p : goal.invariant-loop-p
invariant-loop-p g l =
    (l.from ≤ l.facts)
    × ((set : Facts) → Tells (goal.F-post g l.is_in) l.facts set → Writes l.initial.out (twos (members set l.from)) l.out)

abbrev pub decreases-loop-p : goal.decreases-loop-p
decreases-loop-p g l = l.facts - l.from
