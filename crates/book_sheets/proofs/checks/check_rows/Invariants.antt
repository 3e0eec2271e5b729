use Rattle.std.proofs.Common.{◌≡◌, ◌≤◌, length}
use Rattle.sheets.specs.Verdicts.{fine}
use Rattle.book_sheets.specs.Layout.{rows, row_at}
use Rattle.book_sheets.proofs.checks.check_rows.Given as goal

abbrev pub invariant-loop-a : goal.invariant-loop-a
invariant-loop-a l = (rows l.bytes l.a ≡ fine) × (row_at l.a ≤ length l.bytes)
