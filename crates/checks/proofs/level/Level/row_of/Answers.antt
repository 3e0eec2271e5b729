use Rattle.std.proofs.Common.{rules, length, arith}
use Rattle.std.proofs.lemmas.List.{length-map}
use Rattle.checks.specs.declared.draft.PlacedStep.{PlacedStep}
use Rattle.checks.specs.Drafts.{steps_of}
use Rattle.checks.proofs.Levels.{row_decides}
use Rattle.checks.proofs.level.Level.row_of.Goals as goal

pub returns : goal.returns
returns c m t j =
    let n = length-map c.args.self.now.steps.now (λ (s : PlacedStep). s.place.step) in
    row_decides (length (steps_of c.args.self.now.steps.now)) j _ _
    (λ l. let e = c.from_fn.ensures.below j (omega arith) (omega arith) in search rules)
    (λ l. c.from_fn.ensures.past j (omega arith))
