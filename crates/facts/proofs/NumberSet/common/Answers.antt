use Rattle.std.proofs.Common.{◌&&◌, rules, refl, arith}
use lib.Bits.{bit_and}
use Rattle.facts.proofs.Words.{bit_of_and}
use Rattle.facts.proofs.Rows.{zipped}
use Rattle.facts.proofs.NumberSet.common.Goals as goal

pub returns : goal.returns
returns g c = zipped bit_and ◌&&◌ _ _ _ g.row.W (omega arith) (omega arith) (omega arith) refl (λ k j h l. bit_of_and _ _ j) (λ k h. let e = c.combine.ensures.words k h in search rules)
