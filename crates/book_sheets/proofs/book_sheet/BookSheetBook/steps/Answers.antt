use Rattle.std.proofs.Common.{sym, ◌∙◌}
use Rattle.sheets.specs.Fields.{be16}
use Rattle.book_sheets.proofs.Lawful.{length_steps_from}
use Rattle.book_sheets.proofs.book_sheet.BookSheetBook.steps.Goals as goal

pub returns : goal.returns
returns c =
    let xs = c.args.self.now.bytes.now in c.get.ensures ∙ sym (length_steps_from xs 0 (be16 xs 2))
