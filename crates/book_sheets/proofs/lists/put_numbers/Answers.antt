use Rattle.std.proofs.Common.{◌≡◌, ◌*◌, ap, sym, ◌∙◌, subst, arith}
use Rattle.facts.specs.Sets.{holds, Next}
use Rattle.books.specs.Listed.{members}
use Rattle.sheets.specs.Fields.{twos}
use Rattle.sheets.proofs.Writers.{writes_none, writes_as}
use Rattle.book_sheets.specs.Numbers.{numbers_in}
use Rattle.book_sheets.proofs.NumberLists.{members_gap, next_room, next_put}
use Rattle.book_sheets.proofs.lists.put_numbers.Goals as goal

pub loop-p-init : goal.loop-p-init
loop-p-init g c =
    let P = holds c.args.set.now.words in
    let e : c.into_iter-p-iterator.result.from ≡ 0 = cc in
    (cc, omega arith, writes_as (ap (λ n. twos (members P n)) (sym e)) (writes_none c.args.out.now (omega arith)))

pub put-requires : goal.put-requires
unfolding numbers_in
put-requires g c =
    let s = c.in-Some.ensures.steps in
    let n = subst (λ ws. Next (holds ws) c.loop-p.p-iterator.from c.in-Some.p) c.loop-p.invariant.0 s.1.1 in
    let r = next_room (holds c.args.set.now.words) (64 * g.row.W) c.loop-p.p-iterator.from c.in-Some.p n s.1.0 in
    let w = c.loop-p.invariant.2 in
    omega (arith, w.wrote.place, w.long)

pub loop-p-preserved : goal.loop-p-preserved
loop-p-preserved g c =
    let P = holds c.args.set.now.words in
    let s = c.in-Some.ensures.steps in
    let n = subst (λ ws. Next (holds ws) c.loop-p.p-iterator.from c.in-Some.p) c.loop-p.invariant.0 s.1.1 in
    let w = next_put P c.loop-p.p-iterator.from c.in-Some.p n c.loop-p.invariant.2 c.put.ensures in
    (cc, omega arith, writes_as (ap (λ k. twos (members P k)) (sym s.1.2)) w)

pub returns : goal.returns
unfolding numbers_in
returns g c =
    let P = holds c.args.set.now.words in
    let none = c.in-None.ensures.steps.1 in
    let e = members_gap P c.loop-p.p-iterator.from (64 * g.row.W) c.loop-p.invariant.1
    (λ q h l. ap (λ ws. holds ws q) (sym c.loop-p.invariant.0) ∙ none q h) in
    writes_as (ap twos (sym e)) c.loop-p.invariant.2
