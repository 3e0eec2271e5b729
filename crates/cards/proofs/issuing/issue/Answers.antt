use Rattle.task_sheets.specs.Opened.{task_of}
use Rattle.cards.specs.Cards.{setting_of, moment_of}
use Rattle.cards.proofs.Drawing.{drawn_issued}
use Rattle.cards.proofs.issuing.issue.Goals as goal

pub returns-clause-answered : goal.returns-clause-answered
returns-clause-answered g c =
    let e = c.in_ok-card.ensures in
    let fresh = c.in_ok-card.field-0 in
    let s = setting_of (g.B.Book.model c.args.book.now) (g.D.Board.limit c.args.board.now) fresh in
    (e.0, drawn_issued s (task_of c.args.task.now) (moment_of fresh _) e.1 c.set_start.ensures.holds, e.2)
