use Rattle.std.proofs.Common.{arith}
use Rattle.task_sheets.specs.Opened.{bytes_of}
use Rattle.task_sheets.proofs.Items.{good_sheet, level_end}
use Rattle.task_sheets.proofs.task_sheet.TaskSheet.level_at.Goals as goal

pub list_end-at-requires : goal.list_end-at-requires
list_end-at-requires c =
    let s = c.args.self.now in
    rw (c.bytes-bytes.ensures, c.loop-k.invariant) (level_end (bytes_of s) (good_sheet s) c.loop-k._k (omega arith))
