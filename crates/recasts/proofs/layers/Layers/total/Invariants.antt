use Rattle.std.proofs.Common.{◌≡◌}
use Rattle.task_sheets.specs.Content.{total}
use Rattle.recasts.specs.Layers.{levels_below}
use Rattle.recasts.proofs.layers.Layers.total.Given as goal

abbrev pub invariant-loop-k : goal.invariant-loop-k
invariant-loop-k l = l.total ≡ total (levels_below l.self l.k)
