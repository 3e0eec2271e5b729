use Rattle.std.proofs.Common.{◌≡◌, ◌≤◌, length}
use Rattle.sheets.specs.Verdicts.{fine, up_to}
use Rattle.book_sheets.specs.Layout.{step_lists, lists_at}
use Rattle.book_sheets.proofs.checks.check_steps.Given as goal

abbrev pub invariant-loop-a : goal.invariant-loop-a
invariant-loop-a l =
    (up_to (step_lists l.bytes) l.a ≡ fine) × (l.at ≡ lists_at l.bytes l.a) × (l.at ≤ length l.bytes)
