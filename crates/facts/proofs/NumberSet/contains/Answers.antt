use Rattle.std.proofs.Common.{◌/◌, ◌%◌, get_or, sym, ap, ◌∙◌, arith}
use Rattle.facts.specs.Sets.{bit, holds}
use Rattle.facts.proofs.Words.{bit_read, holds_past}
use Rattle.facts.proofs.NumberSet.contains.Goals as goal

pub returns-in-Some : goal.returns-in-Some
unfolding holds
returns-in-Some g c = let h = c.in-Some.ensures in bit_read _ _ ∙ ap (λ w. bit w (c.args.p % 64)) {y = get_or c.args.self.now.words (c.args.p / 64) 0} (h.lookup.3.1 0)

pub returns-in-None : goal.returns-in-None
returns-in-None g c = let h = c.in-None.ensures in sym (holds_past c.args.self.now.words c.args.p (omega arith))
