use Rattle.std.proofs.Common.{sym, ap, ◌∙◌, arith}
use Rattle.sheets.specs.Fields.{be16}
use Rattle.task_sheets.specs.Opened.{bytes_of}
use Rattle.task_sheets.proofs.Sound.{total_said}
use Rattle.task_sheets.proofs.Items.{good_sheet, sheet_lawful}
use Rattle.task_sheets.proofs.task_sheet.TaskSheet.total.Goals as goal

pub returns : goal.returns
returns c =
    let s = c.args.self.now in
    let e = c.get.ensures ∙ ap (λ xs. be16 xs 6) c.bytes.ensures ∙ sym (total_said (bytes_of s) (good_sheet s)) in
    record { says = e; few = omega (arith, e, (sheet_lawful s).few_in_all) }
