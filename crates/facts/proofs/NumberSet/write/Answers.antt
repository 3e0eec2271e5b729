use Rattle.std.proofs.Common.{cond, eqb, sym, ap, ◌∙◌, arith}
use Rattle.facts.specs.Sets.{holds}
use Rattle.facts.proofs.Words.{holds_put, holds_clear, holds_past}
use Rattle.facts.proofs.NumberSet.write.Goals as goal

pub returns-then-p-clause-past : goal.returns-then-p-clause-past
returns-then-p-clause-past g c e = holds_past c.args.self.now.words c.args.p (omega arith)

pub returns-then-member-clause-after : goal.returns-then-member-clause-after
returns-then-member-clause-after g c q =
    holds_put c.args.self.now.words c.args.p q (omega arith)
    ∙ ap (λ m. cond (eqb q c.args.p) m (holds c.args.self.now.words q)) (sym c.if-member.true)

pub returns-else-member-clause-after : goal.returns-else-member-clause-after
returns-else-member-clause-after g c q =
    holds_clear c.args.self.now.words c.args.p q (omega arith)
    ∙ ap (λ m. cond (eqb q c.args.p) m (holds c.args.self.now.words q)) (sym c.if-member.false)
