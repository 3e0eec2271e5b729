use Rattle.std.proofs.Common.{sym, ap, ◌∙◌}
use Rattle.facts.specs.Sets.{holds}
use Rattle.facts.specs.declared.NumberSet.{NumberSet}
use Rattle.recasts.specs.Layers.{step_of, stratum_of}
use Rattle.recasts.proofs.Rows.{place_taken, place_passed}
use Rattle.recasts.proofs.layers.Layers.steps.Goals as goal
use Rattle.recasts.proofs.layers.Layers.steps.Goals.{then-is_of, else-is_of}

pub loop-u-preserved : goal.loop-u-preserved
loop-u-preserved c a =
    let step = step_of c.args.self.now in
    let stratum = stratum_of c.args.self.now in
    elim c.if-is_of.branch [
      | then-is_of w ↦
          place_taken step stratum c.args.k c.loop-u.u a w.step.result _ _ w.insert.result (sym c.is_of.ensures ∙ w.if-is_of.true) w.step.ensures
          w.insert.ensures.answer (ap (λ (s : NumberSet 8). holds s.words a) w.set-is ∙ w.insert.ensures.after a) (c.loop-u.invariant a)
      | else-is_of w ↦
          ap (λ (s : NumberSet 8). holds s.words a) w.set-is ∙ place_passed step stratum c.args.k c.loop-u.u a _ (sym c.is_of.ensures ∙ w.if-is_of.false) (c.loop-u.invariant a)
    ]
