use Rattle.cards.specs.Cards.{precedes_of}
use Rattle.timetables.proofs.Tables.{SoFar}
use Rattle.timetables.proofs.timetabling.fill.Given as goal

abbrev pub invariant-loop-v : goal.invariant-loop-v
invariant-loop-v g l = SoFar g.M.Measure.scale (precedes_of l.card) l.weights l.initial.begins l.begins l.v l.end
