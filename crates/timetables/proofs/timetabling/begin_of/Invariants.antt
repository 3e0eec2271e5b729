use Rattle.cards.specs.Cards.{precedes_of}
use Rattle.timetables.specs.Timetable.{Greatest, sum, by_place}
use Rattle.timetables.proofs.timetabling.begin_of.Given as goal

abbrev pub invariant-loop-u : goal.invariant-loop-u
invariant-loop-u g l =
    let s = g.M.Measure.scale in
    Greatest s (λ u. precedes_of l.card u l.v) (sum s (by_place s l.weights) (by_place s l.begins)) l.u l.begin
