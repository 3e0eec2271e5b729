use Rattle.std.proofs.Common.{◌≡◌, Ok, Err, Result, refl, ap, ◌∙◌}
use Rattle.std.proofs.lemmas.Result.{err_from_is_err_and}
use Rattle.sheets.specs.declared.fault.SheetFault.{SheetFault}
use Rattle.checks.specs.declared.fault.PlanFault.{PlanFault}
use Rattle.checks.specs.Bytes.{Unless}
use Rattle.checks.proofs.opening.check_bytes.Goals as goal

-- a sheet is refused, and nothing more is asked
refused : (v w : Result (Unit {0}) SheetFault) (o r : Result (Unit {0}) PlanFault) (f : PlanFault) (P : Type 0)
    → o ≡ Err f → r ≡ Err f → Unless v o (Unless w o (o ≡ Ok tt)) → Unless v r (Unless w r P)
refused (Err e) w o r f P q a h = cc
refused (Ok u) (Err e) o r f P q a h = cc
refused (Ok u) (Ok x) o r f P q a h = absurd cc

-- both sheets open, and the answer is as P says
opened : (v w : Result (Unit {0}) SheetFault) (o r : Result (Unit {0}) PlanFault) (P : Type 0)
    → o ≡ Ok tt → Unless v o (Unless w o (o ≡ Ok tt)) → P → Unless v r (Unless w r P)
opened (Err e) w o r P q h p = absurd cc
opened (Ok u) (Err e) o r P q h p = absurd cc
opened (Ok u) (Ok x) o r P q h p = p

pub returns-in_err-book_sheet-clause-answer : goal.returns-in_err-book_sheet-clause-answer
returns-in_err-book_sheet-clause-answer c =
    let p = err_from_is_err_and c.from_residual.result c.from_residual.ensures.1 in
    let e = p.1 ∙ ap Err p.2 in
    refused _ _ (Err c.in_err-book_sheet.field-0.0) c.from_residual.result c.in_err-book_sheet.field-0.0 _ refl e c.in_err-book_sheet.ensures.opens

pub returns-clause-answer : goal.returns-clause-answer
returns-clause-answer c =
    let s = c.in_ok-book_sheet.ensures.says in
    opened _ _ (Ok tt) c.check.result _ refl c.in_ok-book_sheet.ensures.opens
    (rw (← s.book, ← s.task) c.check.ensures.answer)

pub returns-clause-facts : goal.returns-clause-facts
returns-clause-facts c =
    let s = c.in_ok-book_sheet.ensures.says in
    rw (← s.book, ← s.task) c.check.ensures.facts
