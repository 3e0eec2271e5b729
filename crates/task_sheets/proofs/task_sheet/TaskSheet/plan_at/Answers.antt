use Rattle.std.proofs.Common.{ap, ◌∙◌}
use Rattle.sheets.specs.Fields.{be32}
use Rattle.task_sheets.proofs.Items.{good_sheet}
use Rattle.task_sheets.proofs.task_sheet.TaskSheet.plan_at.Goals as goal

pub returns : goal.returns
returns c = c.get.ensures ∙ ap (λ xs. be32 xs 16) c.bytes.ensures ∙ (good_sheet c.args.self.now).plan_place
