use Rattle.std.proofs.Common.{◌+◌, ◌*◌, length, ap, rules, arith}
use Rattle.sheets.proofs.Writers.{writes_on, writes_as, writes_front}
use Rattle.book_writer.proofs.Lengths.{length_sheet}
use Rattle.book_writer.proofs.Parts.{row_room, sheet_parts}
use Rattle.book_writer.proofs.writer.put_sheet.Goals as goal

pub put_rows-requires : goal.put_rows-requires
put_rows-requires g c =
    let m = g.B.Book.model c.args.book.now in
    let l = length_sheet m in
    let n = ap length c.new-writer.ensures.bytes in
    omega (arith, c.put_header.ensures.wrote.place, c.put_header.ensures.long)

pub put_all_lists-requires : goal.put_all_lists-requires
put_all_lists-requires g c =
    let m = g.B.Book.model c.args.book.now in
    let l = length_sheet m in
    let r = row_room m (12 + 11 * m.steps) m.steps in
    let n = ap length c.new-writer.ensures.bytes in
    let h = c.put_header.ensures in
    let w = c.put_rows.ensures in
    omega (arith, h.wrote.place, h.long, w.wrote.place, w.long)

pub returns : goal.returns
returns g c =
    writes_front (search rules) c.new-writer.ensures.front c.new-writer.ensures.bytes
    (writes_as (sheet_parts (g.B.Book.model c.args.book.now)) (writes_on (writes_on c.put_header.ensures c.put_rows.ensures) c.put_all_lists.ensures))
