use Rattle.std.proofs.Common.{inl, inr, arith, rules}
use Rattle.std.proofs.lemmas.Bool.{cases_lt}
use Rattle.std.proofs.lemmas.Bool.Decides.{nat_tests}
use Rattle.bench.proofs.records.facts_on.Goals as goal

pub returns : goal.returns
returns g c = λ q. elim (cases_lt q 1024) [
  | inl l ↦ (let b = c.from_fn.ensures.below q l (omega arith) in search rules)
  | inr l ↦ (let e = c.from_fn.ensures.past q l in let b = g.D.Board.lawful c.args.board.now in let s = b.small in let z = b.above q (omega arith) in grind (arith, nat_tests))
]
