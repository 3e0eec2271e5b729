use Rattle.std.proofs.Common.{sym, subst}
use Rattle.std.proofs.lemmas.Result.{err_from_is_err_and}
use Rattle.task_sheets.specs.Opened.{task_of}
use Rattle.checks.specs.Arrangements.{Arranges}
use Rattle.checks.specs.declared.arrangement.Arrangement.{Arrangement}
use Rattle.recasts.proofs.recasting.recast.Goals as goal

pub returns-in_err-write_strata : goal.returns-in_err-write_strata
returns-in_err-write_strata g c =
    let m = g.B.Book.model c.args.book.now in
    let e = c.in_ok-arrange.ensures in
    let h = subst (λ (a : Arrangement). Arranges m (task_of c.args.task.now) a) (sym c.waiting.ensures.plan) e.arrangement in
    let out = c.from_residual-in_err-write_strata in
    let p = err_from_is_err_and out.result out.ensures.1 in
    rw (p.1, p.2) (e.answer, c.in_err-write_strata.ensures.recast m (g.B.Book.lawful c.args.book.now) e.answer (record { arranged = h.arranged; exact = h.exact }))

pub returns : goal.returns
returns g c =
    let m = g.B.Book.model c.args.book.now in
    let e = c.in_ok-arrange.ensures in
    let h = subst (λ (a : Arrangement). Arranges m (task_of c.args.task.now) a) (sym c.waiting.ensures.plan) e.arrangement in
    (e.answer, c.in_ok-write_strata.ensures.recast m (g.B.Book.lawful c.args.book.now) e.answer (record { arranged = h.arranged; exact = h.exact }))
