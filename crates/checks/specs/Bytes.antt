-- What the check of two sheets, given as bytes, answers.
use Rattle.std.specs.Prelude.{◌≡◌, ℕ, List, Ok, Err, Result}
use Rattle.sheets.specs.declared.fault.Sheet.TheVariants.{Book, Task}
use Rattle.sheets.specs.declared.fault.SheetFault.{SheetFault}
use Rattle.sheets.specs.Verdicts.{verdict_on}
use Rattle.book_sheets.specs.Layout.{book_verdict}
use Rattle.book_sheets.specs.Content as book
use Rattle.book_sheets.specs.declared.book_sheet.BookSheet.{BookSheet}
use Rattle.task_sheets.specs.Layout.{task_verdict}
use Rattle.task_sheets.specs.Content as task
use Rattle.task_sheets.specs.Opened.{bytes_of}
use Rattle.task_sheets.specs.declared.task_sheet.TaskSheet.{TaskSheet}
use Rattle.checks.specs.declared.fault.PlanFault.{PlanFault}
use Rattle.checks.specs.declared.fault.PlanFault.TheVariants.{Sheet}
use Rattle.checks.specs.Checked.{Checked, EndsIn}

-- where the sheet is refused that fault is answered whole, and else the answer is as P says
abbrev pub Unless : Result (Unit {0}) SheetFault → Result (Unit {0}) PlanFault → Type 0 → Type 0
Unless (Ok u) r P = P
Unless (Err f) r P = r ≡ Err (Sheet f)

-- both sheets open; or the book's is refused, or else the task's, and that fault is answered whole
abbrev pub Opens : List ℕ → List ℕ → Result (Unit {0}) PlanFault → Type 0
Opens bs ts r = Unless (verdict_on Book (book_verdict bs)) r (Unless (verdict_on Task (task_verdict ts)) r (r ≡ Ok tt))

-- the sheets read these bytes
pub record Says (bs ts : List ℕ) (b : BookSheet) (t : TaskSheet) : Type 0 where
  pub book : b.bytes.now ≡ bs
  pub task : bytes_of t ≡ ts

-- first the book's sheet, then the task's, then the plan that they say
abbrev pub BytesChecked : List ℕ → List ℕ → Result (Unit {0}) PlanFault → Type 0
BytesChecked bs ts r =
    Unless (verdict_on Book (book_verdict bs)) r (Unless (verdict_on Task (task_verdict ts)) r (Checked (book.model_of (book.content bs)) (task.content ts) r))

-- the words hold the facts that the plan of the two sheets ends in
abbrev pub BytesEndIn : List ℕ → List ℕ → List ℕ → Type 0
BytesEndIn bs ts = EndsIn (book.model_of (book.content bs)) (task.content ts)
