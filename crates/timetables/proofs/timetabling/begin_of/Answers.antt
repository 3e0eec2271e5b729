use Rattle.cards.specs.Cards.{precedes_of}
use Rattle.timetables.specs.Timetable.{sum, by_place}
use Rattle.timetables.proofs.Greatests.{greatest_turn}
use Rattle.timetables.proofs.timetabling.begin_of.Goals as goal

pub loop-u-preserved : goal.loop-u-preserved
loop-u-preserved g c =
    let s = g.M.Measure.scale in
    greatest_turn g.met.M.Measure.laws (λ u. precedes_of c.args.card.now u c.args.v) (sum s (by_place s c.args.weights.now) (by_place s c.args.begins.now)) c.loop-u.u c.loop-u.begin c.begin_after-begin.result c.begin_after-begin.ensures c.loop-u.invariant
