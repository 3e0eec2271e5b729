use Rattle.std.proofs.Common.{◌||◌, rules, refl, arith}
use lib.Bits.{bit_or}
use Rattle.facts.proofs.Words.{bit_of_or}
use Rattle.facts.proofs.Rows.{zipped}
use Rattle.facts.proofs.NumberSet.union.Goals as goal

pub returns : goal.returns
returns g c = zipped bit_or ◌||◌ _ _ _ g.row.W (omega arith) (omega arith) (omega arith) refl (λ k j h l. bit_of_or _ _ j) (λ k h. let e = c.combine.ensures.words k h in search rules)
