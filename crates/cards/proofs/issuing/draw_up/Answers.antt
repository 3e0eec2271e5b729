use Rattle.std.proofs.Common.{rules}
use Rattle.task_sheets.specs.Opened.{task_of}
use Rattle.checks.proofs.TaskLists.{sheet_lawful}
use Rattle.cards.proofs.Drawing.{drawn_up, drawn_numbered}
use Rattle.cards.proofs.issuing.draw_up.Goals as goal

pub returns : goal.returns
returns g c =
    let m = g.B.Book.model c.args.book.now in
    let t = task_of c.args.task.now in
    let span = g.D.Board.limit c.args.board.now in
    let law = sheet_lawful c.args.task.now in
    let drawn = drawn_up m span t law c.waiting.result _ (search rules) c.waiting.ensures.plan (search rules) (search rules) c.waiting.ensures.states in
    (c.if-some_in_hand.ensures, drawn, drawn_numbered m span t law c.waiting.result _ (search rules) c.waiting.ensures.plan)
