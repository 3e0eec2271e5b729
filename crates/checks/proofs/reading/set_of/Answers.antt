use Rattle.std.proofs.Common.{ap, ◌∙◌, arith}
use Rattle.facts.specs.declared.NumberSet.{NumberSet}
use Rattle.facts.specs.Sets.{holds}
use Rattle.task_sheets.specs.Parts.{numbers_of}
use Rattle.checks.proofs.TaskLists.{set_more}
use Rattle.checks.proofs.reading.set_of.Goals as goal
use Rattle.checks.proofs.reading.set_of.Goals.{in-Some, in_default}

pub loop-j-preserved : goal.loop-j-preserved
loop-j-preserved c q =
    elim c.match-get.branch [
      | in-Some w ↦
          (let h = w.in-Some.ensures in
          set_more (numbers_of c.args.numbers.now) 1024 c.loop-j.j q w.in-Some.p _ _ w.insert.result h.0 h.1 w.insert.ensures.answer
          (ap (λ (s : NumberSet 16). holds s.words q) w.set-is ∙ w.insert.ensures.after q) (c.loop-j.invariant q))
      | in_default w ↦ absurd (omega (arith, w.in_default.ensures))
    ]
