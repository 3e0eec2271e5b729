use Rattle.std.proofs.Common.{◌+◌, arith}
use Rattle.book_writer.proofs.Lengths.{length_lists_more, all_lists_up}
use Rattle.book_writer.proofs.Parts.{lists_put}
use Rattle.book_writer.proofs.writer.put_all_lists.Goals as goal

pub put_lists-requires : goal.put_lists-requires
put_lists-requires g c =
    let m = g.B.Book.model c.args.book.now in
    let more = length_lists_more m c.loop-a.a in
    let up = all_lists_up m (c.loop-a.a + 1) m.steps (omega arith) in
    let w = c.loop-a.invariant in
    omega (arith, w.wrote.place, w.long)

pub loop-a-preserved : goal.loop-a-preserved
loop-a-preserved g c = lists_put (g.B.Book.model c.args.book.now) c.loop-a.a c.loop-a.invariant c.put_lists.ensures
