use Rattle.std.proofs.Common.{◌≡◌, is_ok, true, MatchResult, OnOk, sym, refl, subst, rules}
use Rattle.books.specs.Book.{Lawful}
use Rattle.sheets.specs.declared.fault.Sheet.TheVariants.{Book}
use Rattle.sheets.specs.Verdicts.{verdict_on}
use Rattle.book_sheets.specs.Layout.{book_verdict}
use Rattle.book_sheets.specs.Content.{Content, content, model_of}
use Rattle.book_sheets.specs.Laws.{SheetOf}
use Rattle.book_sheets.proofs.Models.{one_sheet, code_by, good_by}
use Rattle.book_sheets.proofs.book_sheet.read_sheet.Goals as goal

pub returns-clause-code : goal.returns-clause-code
returns-clause-code c =
    let xs = c.args.bytes.now in
    let e : c.map_err.result ≡ verdict_on Book (book_verdict xs) = search rules in
    subst (λ r. MatchResult r (λ _. SheetOf xs (content xs)) (λ _. (k : Content) → SheetOf xs k → ⊥)) (sym e) (code_by xs (λ i. (c.type_inv.bytes i).fits) Book (book_verdict xs) refl)

pub returns-clause-good : goal.returns-clause-good
returns-clause-good c =
    let xs = c.args.bytes.now in
    let e : c.map_err.result ≡ verdict_on Book (book_verdict xs) = search rules in
    subst (λ r. OnOk r ((is_ok (book_verdict xs) ≡ true) × ∥ Lawful (model_of (content xs)) ∥₁)) (sym e) (good_by xs (λ i. (c.type_inv.bytes i).fits) Book (book_verdict xs) refl)

pub returns-clause-law : goal.returns-clause-law
returns-clause-law c = one_sheet
