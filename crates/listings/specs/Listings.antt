-- The text that lists a book sheet and a task sheet, and what a call for it answers.
use Rattle.std.specs.Prelude.{◌≡◌, ℕ, ◌<◌, ◌≤◌, ◌⊎◌, List, ◌++◌, length, drop, Ok, Err, Result}
use Rattle.books.specs.Book.{Model}
pub use Rattle.sheets.specs.Lengths.{longest}
use Rattle.sheets.specs.declared.writing.TooShort.{TooShort}
use Rattle.book_sheets.specs.Content as book
use Rattle.task_sheets.specs.Content as task
use Rattle.checks.specs.declared.fault.PlanFault.{PlanFault}
use Rattle.checks.specs.Bytes.{BytesChecked}
use Rattle.checks.specs.Faults.{plan_number}
use Rattle.listings.specs.Lines.{refused_line}
use Rattle.listings.specs.Shown.{Shown, Shows, shown_text}

-- the book and the task that the bytes of a sheet say
abbrev pub book_in : List ℕ → Model
book_in bs = book.model_of (book.content bs)

abbrev pub task_in : List ℕ → task.Task
task_in ts = task.content ts

-- the text for an answer of the check: what is shown of the plan, or the refusal's number
abbrev pub Tells : Model → task.Task → Result (Unit {0}) PlanFault → List ℕ → Type 0
Tells m t (Ok u) text = (s : Shown) × Shows m t s × (text ≡ shown_text s)
Tells m t (Err f) text = text ≡ refused_line (plan_number f)

-- the text for two sheets that may be opened: first the book's sheet, then the task's, then the plan that they say
pub record Opened (bs ts text : List ℕ) : Type 0 where
  pub answer : Result (Unit {0}) PlanFault
  pub checked : BytesChecked bs ts answer
  pub told : Tells (book_in bs) (task_in ts) answer text

-- the text lists the two sheets. Both lengths are looked at first: a sheet that is too long is refused with 19
abbrev pub Lists : List ℕ → List ℕ → List ℕ → Type 0
Lists bs ts text =
    (((longest < length bs) ⊎ (longest < length ts)) × (text ≡ refused_line 19))
    ⊎ ((length bs ≤ longest) × (length ts ≤ longest) × Opened bs ts text)

-- no other text lists the same sheets
abbrev pub OneText : Type 0
OneText = (bs ts text other : List ℕ) → Lists bs ts text → Lists bs ts other → text ≡ other

-- the answer to a call for a text, from the buffer before and after it: the text now begins the buffer, and its length is
-- answered; or, where the buffer is shorter, the text's length is named, and nothing is written
abbrev pub Writes : List ℕ → List ℕ → Result ℕ TooShort → List ℕ → Type 0
Writes text before (Ok n) after = (n ≡ length text) × (n ≤ length before) × (after ≡ text ++ drop n before)
Writes text before (Err e) after = (e.needed ≡ length text) × (length before < e.needed) × (after ≡ before)

-- the answer to a call for the listing of two sheets
pub record Listed (bs ts before : List ℕ) (r : Result ℕ TooShort) (after : List ℕ) : Type 0 where
  pub text : List ℕ
  pub lists : Lists bs ts text
  pub writes : Writes text before r after
