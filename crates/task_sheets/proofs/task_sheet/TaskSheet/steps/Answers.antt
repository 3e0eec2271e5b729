use Rattle.std.proofs.Common.{ap, ◌∙◌, arith}
use Rattle.sheets.specs.Fields.{be16}
use Rattle.task_sheets.proofs.Items.{sheet_lawful}
use Rattle.task_sheets.proofs.task_sheet.TaskSheet.steps.Goals as goal

pub returns : goal.returns
returns c =
    let e = c.get.ensures ∙ ap (λ xs. be16 xs 2) c.bytes.ensures in
    record { says = e; few = omega (arith, e, (sheet_lawful c.args.self.now).few_steps) }
