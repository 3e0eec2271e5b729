-- The check of two sheets from their bytes: a sheet is refused, or both open.
use Rattle.std.proofs.Common.{◌≡◌, ℕ, List, Ok, Err, Result, subst}
use Rattle.sheets.specs.declared.fault.Sheet.TheVariants.{Book, Task}
use Rattle.sheets.specs.declared.fault.SheetFault.{SheetFault}
use Rattle.sheets.specs.Verdicts.{verdict_on}
use Rattle.book_sheets.specs.Layout.{book_verdict}
use Rattle.book_sheets.specs.Content as book
use Rattle.task_sheets.specs.Layout.{task_verdict}
use Rattle.task_sheets.specs.Content as task
use Rattle.checks.specs.declared.fault.PlanFault.{PlanFault}
use Rattle.checks.specs.declared.fault.PlanFault.TheVariants.{Sheet}
use Rattle.checks.specs.Checked.{Checked}
use Rattle.checks.specs.Bytes.{Unless, BytesChecked}

-- a sheet is refused, and nothing more is asked
pub refused : (v w : Result (Unit {0}) SheetFault) (o r : Result (Unit {0}) PlanFault) (f : PlanFault) (P : Type 0)
    → o ≡ Err f → r ≡ Err f → Unless v o (Unless w o (o ≡ Ok tt)) → Unless v r (Unless w r P)
refused (Err e) w o r f P q a h = cc
refused (Ok u) (Err e) o r f P q a h = cc
refused (Ok u) (Ok x) o r f P q a h = absurd cc

-- both sheets open, and the answer is as P says
pub opened : (v w : Result (Unit {0}) SheetFault) (o r : Result (Unit {0}) PlanFault) (P : Type 0)
    → o ≡ Ok tt → Unless v o (Unless w o (o ≡ Ok tt)) → P → Unless v r (Unless w r P)
opened (Err e) w o r P q h p = absurd cc
opened (Ok u) (Err e) o r P q h p = absurd cc
opened (Ok u) (Ok x) o r P q h p = p

-- a sheet that is refused
pub at_fault : (v : Result (Unit {0}) SheetFault) (f : SheetFault) (r : Result (Unit {0}) PlanFault) (P : Type 0) → v ≡ Err f → r ≡ Err (Sheet f) → Unless v r P
at_fault v f r P e d = rw e d

-- a sheet that opens
pub at_fine : (v : Result (Unit {0}) SheetFault) (u : Unit {0}) (r : Result (Unit {0}) PlanFault) (P : Type 0) → v ≡ Ok u → P → Unless v r P
at_fine v u r P e p = rw e p

-- both sheets open, and the check is made of what they say
pub both_open : (bs ts bs' ts' : List ℕ) (r r' : Result (Unit {0}) PlanFault) (u w : Unit {0})
    → verdict_on Book (book_verdict bs) ≡ Ok u → verdict_on Task (task_verdict ts) ≡ Ok w → bs' ≡ bs → ts' ≡ ts → r' ≡ r
    → Checked (book.model_of (book.content bs')) (task.content ts') r' → BytesChecked bs ts r
both_open bs ts bs' ts' r r' u w v x b t e h =
    at_fine (verdict_on Book (book_verdict bs)) u r _ v
    (at_fine (verdict_on Task (task_verdict ts)) w r _ x
    (subst (λ ys. Checked (book.model_of (book.content ys)) (task.content ts) r) b
    (subst (λ ys. Checked (book.model_of (book.content bs')) (task.content ys) r) t
    (subst (λ q. Checked (book.model_of (book.content bs')) (task.content ts') q) e h))))
