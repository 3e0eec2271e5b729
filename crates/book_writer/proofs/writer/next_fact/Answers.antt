use Rattle.std.proofs.Common.{◌≡◌, sym, ◌∙◌, ap, inl, inr, arith}
use Rattle.std.proofs.lemmas.Bool.{cases_lt}
use Rattle.book_writer.proofs.writer.next_fact.Goals as goal

pub loop-p-init : goal.loop-p-init
loop-p-init g c set tells q h l = absurd (omega arith)

pub returns-then-is_in : goal.returns-then-is_in
returns-then-is_in g c set tells =
    let e = tells c.loop-p.p c.is_in.result (omega arith) c.is_in.ensures in
    (omega arith, record { from = c.loop-p.auto.p; here = sym e ∙ c.if-is_in.true; before = c.loop-p.invariant set tells })

pub loop-p-preserved : goal.loop-p-preserved
loop-p-preserved g c set tells q h l =
    let e = tells c.loop-p.p c.is_in.result (omega arith) c.is_in.ensures in
    elim (cases_lt q c.loop-p.p) [
      | inl k ↦ c.loop-p.invariant set tells q h k
      | inr k ↦ let here : q ≡ c.loop-p.p = omega arith in ap set here ∙ sym e ∙ c.if-is_in.false
    ]

pub returns : goal.returns
returns g c set tells q h l = c.loop-p.invariant set tells q h (omega arith)
