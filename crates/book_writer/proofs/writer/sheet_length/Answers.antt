use Rattle.std.proofs.Common.{◌≡◌, length, ap, arith}
use Rattle.book_sheets.specs.Content.{step_in, steps_in, all_lists}
use Rattle.book_writer.proofs.Contents.{sheet_means, again}
use Rattle.book_writer.proofs.Lengths.{length_lists, length_lists_more, length_sheet}
use Rattle.book_writer.proofs.writer.sheet_length.Goals as goal

pub loop-a-preserved : goal.loop-a-preserved
loop-a-preserved g c =
    let m = g.B.Book.model c.args.book.now in
    let more = length_lists_more m c.loop-a.a in
    let e = length_lists (step_in m c.loop-a.a) in
    let i = c.loop-a.invariant.0 in
    (omega arith, omega arith)

pub returns : goal.returns
returns g c =
    let m = g.B.Book.model c.args.book.now in
    let e : c.loop-a.a ≡ m.steps = omega arith in
    let i = c.loop-a.invariant.0 in
    let k = ap (λ n. length (all_lists (steps_in m n))) e in
    let l = length_sheet m in
    record { is = omega arith; means = sheet_means m (g.B.Book.lawful c.args.book.now); again = again }
