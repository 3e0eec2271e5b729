use Rattle.std.proofs.Common.{◌*◌, not, sym, ap, ◌∙◌, arith}
use Rattle.facts.specs.Sets.{holds}
use Rattle.facts.proofs.Equal.{first_other, second_says}
use Rattle.facts.proofs.NumberSetPartialEq.eq.Goals as goal

pub returns-then-is_none-clause-words : goal.returns-then-is_none-clause-words
returns-then-is_none-clause-words g c =
    second_says 1024 (64 * g.row.W) (omega (arith, c.args.self.now.whole, c.args.self.now.few)) (holds c.args.self.now.words) (holds c.args.other.now.words) _ _ _
    c.first_outside.ensures c.first_outside-then-is_none.ensures (c.is_none.ensures ∙ ap not c.if-is_none.true) c.is_none-then-is_none.ensures

pub returns-else-is_none-clause-words : goal.returns-else-is_none-clause-words
returns-else-is_none-clause-words g c =
    c.if-is_none.false
    ∙ sym (first_other 1024 (64 * g.row.W) (omega (arith, c.args.self.now.whole, c.args.self.now.few)) (holds c.args.self.now.words) (holds c.args.other.now.words) _
    c.first_outside.ensures (c.is_none.ensures ∙ ap not c.if-is_none.false))
