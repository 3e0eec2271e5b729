use Rattle.std.proofs.Common.{◌<◌, ◌||◌, length, sym, ap, ◌∙◌, ap₂, arith}
use Rattle.std.proofs.lemmas.List.{length-map}
use Rattle.checks.specs.declared.draft.PlacedStep.{PlacedStep}
use Rattle.checks.specs.Drafts.{steps_of}
use Rattle.checks.proofs.Levels.{some_more, step_at, told_at}
use Rattle.checks.proofs.level.Level.facts_after.Goals as goal

pub loop-step-preserved : goal.loop-step-preserved
loop-step-preserved c m t =
    let items = c.args.self.now.steps.now in
    let xs = steps_of items in
    let i = c.loop-step.step-index in
    let s = c.step-item.result in
    let v = c.loop-step.invariant m t in
    let here = c.step-item.is in
    let within : i < length items = omega arith in
    let in_steps : i < length xs = omega (arith, length-map items (λ (s : PlacedStep). s.place.step)) in
    let told = told_at items i s within here m t in (
      λ q. c.union-deletes.ensures q ∙ ap₂ ◌||◌ (v.0 q) (told.deletes q ∙ ap (λ a. m.deletes a q) (sym (step_at items i s within here)))
          ∙ sym (some_more (λ a. m.deletes a q) xs i in_steps),
      λ q. c.union-adds.ensures q ∙ ap₂ ◌||◌ (v.1 q) (told.adds q ∙ ap (λ a. m.adds a q) (sym (step_at items i s within here)))
          ∙ sym (some_more (λ a. m.adds a q) xs i in_steps),
    )
