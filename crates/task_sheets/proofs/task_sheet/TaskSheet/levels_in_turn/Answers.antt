use Rattle.std.proofs.Common.{◌∙◌}
use Rattle.sheets.specs.Fields.{be16}
use Rattle.task_sheets.specs.Layout.{level_begins_at}
use Rattle.task_sheets.specs.Opened.{bytes_of}
use Rattle.task_sheets.proofs.Sound.{length_levels_from}
use Rattle.task_sheets.proofs.Laws.{levels_fit}
use Rattle.task_sheets.proofs.Items.{good_sheet}
use Rattle.task_sheets.proofs.task_sheet.TaskSheet.levels_in_turn.Goals as goal

pub over-requires : goal.over-requires
over-requires c =
    let s = c.args.self.now in
    let xs = bytes_of s in
    let n = c.levels.ensures.says ∙ length_levels_from xs (level_begins_at xs 0) (be16 xs 4) in
    rw (c.bytes.ensures, c.plan_at.ensures, n) (levels_fit xs (good_sheet s))

pub returns : goal.returns
returns c =
    let s = c.args.self.now in
    let xs = bytes_of s in
    let n = c.levels.ensures.says ∙ length_levels_from xs (level_begins_at xs 0) (be16 xs 4) in
    rw (c.over.ensures, c.bytes.ensures, c.plan_at.ensures, n)
