use Rattle.std.proofs.Common.{◌≡◌, ◌+◌, ◌*◌, ◌≤◌, length}
use Rattle.sheets.specs.Verdicts.{fine}
use Rattle.sheets.specs.Lists.{entries}
use Rattle.sheets.proofs.lists.check_list.Given as goal

abbrev pub invariant-loop-j : goal.invariant-loop-j
invariant-loop-j l = (entries l.bytes l.bound l.at l.j ≡ fine) × (l.at + 2 * l.j ≤ length l.bytes)
