use Rattle.std.proofs.Common.{ap, sym, arith}
use Rattle.sheets.specs.Fields.{twos}
use Rattle.sheets.proofs.Writers.{writes_as}
use Rattle.book_sheets.proofs.NumberLists.{members_gap, next_room, next_put}
use Rattle.book_writer.proofs.writer.put_facts.Goals as goal

pub put-requires : goal.put-requires
put-requires g c =
    let set = c.requires.room.0 in
    let tells = c.requires.room.1 in
    let n = c.in-Some.ensures set tells in
    let r = next_room set c.args.facts c.loop-p.from c.in-Some.p n.1 n.0 in
    let w = c.loop-p.invariant.1 set tells in
    omega (arith, w.wrote.place, w.long, c.requires.room.2)

pub loop-p-preserved : goal.loop-p-preserved
loop-p-preserved g c =
    let n = (c.in-Some.ensures c.requires.room.0 c.requires.room.1).0 in
    (omega arith, λ set tells. next_put set c.loop-p.from c.in-Some.p (c.in-Some.ensures set tells).1 (c.loop-p.invariant.1 set tells) c.put.ensures)

pub returns : goal.returns
returns g c set tells =
    let e = members_gap set c.loop-p.from c.args.facts c.loop-p.invariant.0 (c.in_default.ensures set tells) in
    writes_as (ap twos (sym e)) (c.loop-p.invariant.1 set tells)
