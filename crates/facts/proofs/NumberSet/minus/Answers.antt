use Rattle.std.proofs.Common.{◌-◌, ◌^◌, not, ◌&&◌, rules, refl, arith}
use lib.Bits.{bit_and}
use Rattle.facts.proofs.Words.{bit_minus}
use Rattle.facts.proofs.Rows.{zipped}
use Rattle.facts.proofs.NumberSet.minus.Goals as goal

pub returns : goal.returns
returns g c = zipped (λ x y. bit_and x ((2 ^ 64 - 1) - y)) (λ x y. x && not y) _ _ _ g.row.W (omega arith) (omega arith) (omega arith) refl (λ k j h l. bit_minus _ _ j (c.combine.ensures.fit k h) l) (λ k h. let e = c.combine.ensures.words k h in search rules)
