use Rattle.sheets.specs.Writers.{Writes}
use Rattle.task_sheets.specs.Content.{plan_bytes}
use Rattle.recasts.specs.Layers.{levels_below}
use Rattle.recasts.proofs.layers.Layers.put.Given as goal

abbrev pub invariant-loop-k : goal.invariant-loop-k
invariant-loop-k l = Writes l.initial.out (plan_bytes (levels_below l.self l.k)) l.out
