use Rattle.std.proofs.Common.{◌∙◌, arith}
use Rattle.std.proofs.lemmas.List.{length-map, length-set}
use Rattle.checks.specs.declared.draft.PlacedStep.{PlacedStep}
use Rattle.checks.specs.Drafts.{steps_of}
use Rattle.checks.specs.Levels.{RowAt}
use Rattle.checks.proofs.Levels.{table_more}
use Rattle.checks.proofs.level.Level.fill_rows.Goals as goal

pub loop-i-preserved : goal.loop-i-preserved
loop-i-preserved c = (
  length-set c.loop-i.rows c.loop-i.i c.row_of.result ∙ c.loop-i.invariant.0,
  λ m t. table_more (RowAt m (steps_of c.args.self.now.steps.now)) c.loop-i.rows c.loop-i.i c.row_of.result (omega arith) (c.loop-i.invariant.1 m t) (c.row_of.ensures m t),
)

pub returns : goal.returns
returns c m t i l = c.loop-i.invariant.1 m t i (omega (arith, length-map c.args.self.now.steps.now (λ (s : PlacedStep). s.place.step)))
