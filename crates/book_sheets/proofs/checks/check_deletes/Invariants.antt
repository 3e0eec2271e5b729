use Rattle.std.proofs.Common.{◌≡◌, ◌+◌, ◌*◌, ◌≤◌, length}
use Rattle.sheets.specs.Verdicts.{fine, up_to}
use Rattle.sheets.specs.Numbers.{numbers_of}
use Rattle.book_sheets.specs.Layout.{deleted_from}
use Rattle.book_sheets.proofs.checks.check_deletes.Given as goal

abbrev pub invariant-loop-j : goal.invariant-loop-j
invariant-loop-j l =
    (up_to (deleted_from l.bytes l.facts (numbers_of l.adds.numbers) l.at) l.j ≡ fine) × (l.at + 2 * l.j ≤ length l.bytes)
