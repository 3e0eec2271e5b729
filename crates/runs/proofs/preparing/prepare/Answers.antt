use Rattle.std.proofs.Common.{ℕ, subst}
use Rattle.std.proofs.lemmas.Result.{err_from_is_err_and}
use Rattle.task_sheets.specs.Opened.{task_of}
use Rattle.runs.specs.Rooms.{FirstShort}
use Rattle.runs.specs.Whole.{by_places}
use Rattle.runs.proofs.Shorts.{short_early}
use Rattle.runs.proofs.preparing.prepare.Goals as goal

pub returns-in_err-first_short : goal.returns-in_err-first_short
returns-in_err-first_short g c =
    let lent = c.args.lent in
    let out = c.from_residual-in_err-first_short in
    let p = err_from_is_err_and out.result out.ensures.1 in
    rw (p.1, p.2)
    (short_early (g.B.Book.model c.args.book.now) (g.B.Book.lawful c.args.book.now) (g.D.Board.limit c.args.board.now) (task_of c.args.task.now) c.args.card.now lent c.in_err-first_short.field-0.0.needed
    c.in_ok-fresh.fresh c.in_ok-fresh.ensures
    (subst (λ (n : ℕ). FirstShort (by_places lent n) c.in_err-first_short.field-0.0.needed) c.count.ensures c.in_err-first_short.ensures))
