use Rattle.std.proofs.Common.{Ok, Err, refl, ap, ◌∙◌}
use Rattle.std.proofs.lemmas.Result.{err_from_is_err_and}
use Rattle.checks.specs.Checked.{bare}
use Rattle.listings.proofs.Sheets.{refused, opened}
use Rattle.listings.proofs.making.read_page.Goals as goal

pub returns-in_err-book_sheet-clause-checked : goal.returns-in_err-book_sheet-clause-checked
returns-in_err-book_sheet-clause-checked c =
    let p = err_from_is_err_and c.from_residual.result c.from_residual.ensures.1 in
    let f = c.in_err-book_sheet.field-0.0 in
    refused _ _ (Err f) (bare c.from_residual.result) f _ refl (ap bare p.1 ∙ ap Err p.2) c.in_err-book_sheet.ensures.opens

pub returns-in_err-arrange-clause-checked : goal.returns-in_err-arrange-clause-checked
returns-in_err-arrange-clause-checked c =
    let p = err_from_is_err_and c.from_residual-in_err-arrange.result c.from_residual-in_err-arrange.ensures.1 in
    let e = ap bare p.1 ∙ ap Err p.2 in
    let s = c.in_ok-book_sheet.ensures.says in
    opened _ _ (Ok tt) (bare c.from_residual-in_err-arrange.result) _ refl c.in_ok-book_sheet.ensures.opens
    (rw (← s.book, ← s.task, e) c.in_err-arrange.ensures.answer)

pub returns-clause-checked : goal.returns-clause-checked
returns-clause-checked c =
    let s = c.in_ok-book_sheet.ensures.says in
    opened _ _ (Ok tt) (Ok tt) _ refl c.in_ok-book_sheet.ensures.opens (rw (← s.book, ← s.task) c.in_ok-arrange.ensures.answer)
