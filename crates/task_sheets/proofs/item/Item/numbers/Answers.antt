use Rattle.std.proofs.Common.{◌+◌, ◌-◌, ◌*◌, ◌/◌, min, length, refl, ap, ◌∙◌, arith}
use Rattle.sheets.specs.Lists.{numbers_at}
use Rattle.task_sheets.specs.Parts.{part_numbers}
use Rattle.task_sheets.proofs.Slices.{numbers_part}
use Rattle.task_sheets.proofs.item.Item.numbers.Goals as goal

pub returns : goal.returns
returns c =
    let bs = c.bytes-part.result.now in
    let n = c.min-n.result in
    c.new-2.ensures ∙ numbers_part bs 2 n (2 + 2 * n) refl (omega arith)
    ∙ ap (numbers_at bs 2) (c.min-n.ensures ∙ ap (λ v. min v ((length bs - 2) / 2)) c.get-count.ensures)
    ∙ ap part_numbers c.bytes-part.ensures
