use Rattle.std.proofs.Common.{◌+◌, ◌*◌, arith}
use Rattle.book_sheets.specs.Content.{step_in}
use Rattle.book_writer.proofs.Lengths.{length_lists, length_lists_more}
use Rattle.book_writer.proofs.Parts.{row_room, lists_fit, row_put}
use Rattle.book_writer.proofs.writer.put_rows.Goals as goal

pub overflow_cast-lists : goal.overflow_cast-lists
overflow_cast-lists g c =
    let k = lists_fit (g.B.Book.model c.args.book.now) (g.B.Book.lawful c.args.book.now) c.loop-a.a (omega arith) in
    let e = c.loop-a.invariant.1 in
    omega arith

pub put_row-requires : goal.put_row-requires
put_row-requires g c =
    let k = row_room (g.B.Book.model c.args.book.now) (12 + 11 * c.steps-steps.result) c.loop-a.a in
    let w = c.loop-a.invariant.0 in
    omega (arith, w.wrote.place, w.long)

pub overflow_add-lists-in-loop-a : goal.overflow_add-lists-in-loop-a
overflow_add-lists-in-loop-a g c =
    let k = lists_fit (g.B.Book.model c.args.book.now) (g.B.Book.lawful c.args.book.now) c.loop-a.a (omega arith) in
    let e = c.loop-a.invariant.1 in
    omega arith

pub loop-a-preserved : goal.loop-a-preserved
loop-a-preserved g c =
    let m = g.B.Book.model c.args.book.now in
    let e = c.loop-a.invariant.1 in
    let more = length_lists_more m c.loop-a.a in
    let l = length_lists (step_in m c.loop-a.a) in (
      row_put m (12 + 11 * c.steps-steps.result) c.loop-a.a c.loop-a.lists c.seconds.result c.of-sizes.result e c.seconds.ensures c.of-sizes.ensures c.loop-a.invariant.0 c.put_row.ensures,
      omega arith,
    )
