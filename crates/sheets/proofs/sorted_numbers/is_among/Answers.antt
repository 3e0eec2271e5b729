use Rattle.std.proofs.Common.{map, ◌+◌, ◌-◌, ◌/◌, sym, ◌∙◌, inl, inr, arith}
use Rattle.std.proofs.lemmas.Bool.{cases_lt}
use Rattle.std.proofs.lemmas.List.{get_or-map, length-map}
use Rattle.sheets.specs.Numbers.{number_in}
use Rattle.sheets.proofs.Pairs.{has_at, has_none, below, above}
use Rattle.sheets.proofs.sorted_numbers.is_among.Goals as goal

pub returns-then-q-p : goal.returns-then-q-p
returns-then-q-p c =
    let pairs = c.args.pairs.now in
    let m = c.loop-low.low + (c.loop-low.high - c.loop-low.low) / 2 in
    let there = get_or-map number_in pairs m _ 0 (omega arith) in
    sym (has_at (map number_in pairs) c.args.p m (omega (arith, length-map pairs number_in)) (sym (there ∙ sym c.number-q.ensures ∙ c.if-q-p.true)))

pub loop-low-preserved-then-q-p-2 : goal.loop-low-preserved-then-q-p-2
loop-low-preserved-then-q-p-2 c =
    let pairs = c.args.pairs.now in
    let m = c.loop-low.low + (c.loop-low.high - c.loop-low.low) / 2 in
    let there = get_or-map number_in pairs m _ 0 (omega arith) ∙ sym c.number-q.ensures in
    (omega arith, omega arith, below (map number_in pairs) c.requires c.args.p m (omega (arith, length-map pairs number_in)) (omega (arith, there)), c.loop-low.invariant.3)

pub loop-low-preserved : goal.loop-low-preserved
loop-low-preserved c =
    let pairs = c.args.pairs.now in
    let m = c.loop-low.low + (c.loop-low.high - c.loop-low.low) / 2 in
    let there = get_or-map number_in pairs m _ 0 (omega arith) ∙ sym c.number-q.ensures in
    let last = above (map number_in pairs) c.requires c.args.p m (omega (arith, there)) in
    (omega arith, omega arith, c.loop-low.invariant.2, λ i l k. last i l (omega (arith, length-map pairs number_in)))

pub returns : goal.returns
returns c =
    let pairs = c.args.pairs.now in
    sym (has_none (map number_in pairs) c.args.p (λ j l e. elim (cases_lt j c.loop-low.low) [
      | inl h ↦ let less = c.loop-low.invariant.2 j h in omega arith
      | inr h ↦ let more = c.loop-low.invariant.3 j (omega arith) (omega (arith, length-map pairs number_in)) in omega arith
    ]))
