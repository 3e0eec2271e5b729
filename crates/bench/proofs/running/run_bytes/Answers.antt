use Rattle.std.proofs.Common.{Err, refl, ap, ◌∙◌, arith}
use Rattle.std.proofs.lemmas.Result.{err_from_is_err_and}
use Rattle.checks.proofs.TaskLists.{sheet_lawful}
use Rattle.bench.proofs.Runs.{on_open, drawn, not_drawn, not_issued, records_at}
use Rattle.bench.proofs.running.run_bytes.Goals as goal

pub returns-in_err-issue : goal.returns-in_err-issue
returns-in_err-issue g c =
    let o = c.in_ok-book_sheet.ensures in
    let p = err_from_is_err_and c.from_residual-in_err-issue.result c.from_residual-in_err-issue.ensures.1 in
    let f = c.in_err-issue.field-0.0 in
    let d = not_drawn _ _ _ c.new-card.result c.issue.new.card f (g.D.Board.set c.issue.new.board) c.in_err-issue.ensures.answered in
    on_open _ _ _ _ _ _ _ _ o.opens o.says.book o.says.task
    (not_issued _ _ _ _ _ _ c.new-card.result c.from_residual-in_err-issue.result f (p.1 ∙ ap Err p.2) c.new-card.ensures d refl)

pub returns-then-out-count : goal.returns-then-out-count
returns-then-out-count g c =
    let o = c.in_ok-book_sheet.ensures in
    let d = c.in_ok-issue.ensures.answered in
    let up = drawn _ _ _ c.issue.new.card _ (sheet_lawful c.in_ok-book_sheet.task_sheet) d.1 in
    on_open _ _ _ _ _ _ _ _ o.opens o.says.book o.says.task
    (c.issue.new.card, _, up, d.1, d.2, (omega arith, omega (arith, c.saturating_mul.ensures), refl))

pub returns : goal.returns
returns g c =
    let o = c.in_ok-book_sheet.ensures in
    let d = c.in_ok-issue.ensures.answered in
    let up = drawn _ _ _ c.issue.new.card _ (sheet_lawful c.in_ok-book_sheet.task_sheet) d.1 in
    on_open _ _ _ _ _ _ _ _ o.opens o.says.book o.says.task
    (c.issue.new.card, _, up, d.1, d.2, (omega arith, records_at _ _ _ c.issue.new.card _ _ _ _ _ c.in_ok-issue.ensures.span c.carry.ensures))
