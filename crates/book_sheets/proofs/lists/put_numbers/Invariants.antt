use Rattle.std.proofs.Common.{◌≡◌, ◌*◌, ◌≤◌}
use Rattle.facts.specs.Sets.{holds}
use Rattle.books.specs.Listed.{members}
use Rattle.sheets.specs.Fields.{twos}
use Rattle.sheets.specs.Writers.{Writes}
use Rattle.book_sheets.proofs.lists.put_numbers.Given as goal

abbrev pub invariant-loop-p : goal.invariant-loop-p
invariant-loop-p g l =
    (l.p-iterator.set.now.words ≡ l.set.words)
    × (l.p-iterator.from ≤ 64 * g.row.W)
    × Writes l.initial.out (twos (members (holds l.set.words) l.p-iterator.from)) l.out
