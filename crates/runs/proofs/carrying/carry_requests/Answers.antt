use Rattle.std.proofs.Common.{arith}
use Rattle.runs.proofs.Turns.{so_far_more}
use Rattle.runs.proofs.carrying.carry_requests.Goals as goal

pub loop-i-preserved : goal.loop-i-preserved
loop-i-preserved g c =
    let w = c.carry_request.ensures in
    rw w.recorded.1
    (so_far_more (g.B.Book.model c.args.book.now) _ _ _ c.args.card.now _ c.loop-i.card _ c.carry_request.new.card _
    c.args.requests.now c.args.replies.now c.loop-i.replies c.loop-i.i _ w.recorded.0
    (omega arith) (omega arith) c.loop-i.invariant w.plan w.span w.recorded.2)
