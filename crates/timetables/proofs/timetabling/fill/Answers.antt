use Rattle.std.proofs.Common.{◌≡◌, arith}
use Rattle.cards.specs.Cards.{size_of, precedes_of}
use Rattle.timetables.proofs.Upward.{upward}
use Rattle.timetables.proofs.Tables.{so_far_more, written_made}
use Rattle.timetables.proofs.timetabling.fill.Goals as goal

pub loop-v-preserved : goal.loop-v-preserved
loop-v-preserved g c =
    so_far_more g.met.M.Measure.laws (precedes_of c.args.card.now) c.args.weights.now c.args.begins.now c.loop-v.begins c.loop-v.v c.loop-v.end c.begin_of.result c.sum_at.result c.greater-end.result
    (omega arith) c.sum_at.ensures c.greater-end.ensures c.begin_of.ensures c.loop-v.invariant

pub returns : goal.returns
returns g c =
    let card = c.args.card.now in
    let at : c.loop-v.v ≡ size_of card = omega arith in
    written_made g.met.M.Measure.laws (precedes_of card) c.args.weights.now (size_of card) (upward card) c.args.begins.now c.loop-v.begins c.loop-v.end c.loop-v.v at (omega arith) (omega arith) c.loop-v.invariant
