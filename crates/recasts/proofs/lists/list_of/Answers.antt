use Rattle.std.proofs.Common.{◌≡◌, ◌+◌, ◌*◌, is_some, length, sym, ap, ◌∙◌, subst, arith}
use Rattle.sheets.specs.Fields.{be16}
use Rattle.task_sheets.specs.Parts.{item_bytes, part_numbers}
use Rattle.task_sheets.specs.Opened.{bytes_of, task_of}
use Rattle.task_sheets.proofs.Items.{good_sheet, sheet_lawful}
use Rattle.recasts.proofs.Copies.{length_part, item_whole, list_few}
use Rattle.recasts.proofs.lists.list_of.Goals as goal

pub returns-in-Some : goal.returns-in-Some
returns-in-Some c =
    let h = c.in-Some.ensures in
    let w = item_whole (bytes_of c.args.task.now) (good_sheet c.args.task.now) (is_some c.args.task.now.opened) c.args.which c.in-Some.item h.lies.0 h.lies.1 in
    record {
      few = omega (arith, w, length_part (item_bytes c.in-Some.item) w, ap length h.says, list_few (task_of c.args.task.now) (sheet_lawful c.args.task.now) c.args.which, ap length c.bytes.ensures);
      whole = subst (λ bs. length bs ≡ 2 + 2 * be16 bs 0) (sym c.bytes.ensures) w;
      says = ap part_numbers c.bytes.ensures ∙ h.says;
    }
