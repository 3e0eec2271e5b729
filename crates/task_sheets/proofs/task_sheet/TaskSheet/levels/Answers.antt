use Rattle.std.proofs.Common.{sym, ap, ◌∙◌, arith}
use Rattle.sheets.specs.Fields.{be16}
use Rattle.task_sheets.specs.Layout.{level_begins_at}
use Rattle.task_sheets.specs.Opened.{bytes_of}
use Rattle.task_sheets.proofs.Sound.{length_levels_from}
use Rattle.task_sheets.proofs.Items.{sheet_lawful}
use Rattle.task_sheets.proofs.task_sheet.TaskSheet.levels.Goals as goal

pub returns : goal.returns
returns c =
    let xs = bytes_of c.args.self.now in
    let e = c.get.ensures ∙ ap (λ xs. be16 xs 4) c.bytes.ensures ∙ sym (length_levels_from xs (level_begins_at xs 0) (be16 xs 4)) in
    record { says = e; few = omega (arith, e, (sheet_lawful c.args.self.now).few_levels) }
