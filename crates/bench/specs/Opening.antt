-- Calls on two sheets, given as bytes.
use Rattle.std.specs.Prelude.{◌≡◌, ℕ, List, Ok, Err, Result}
use Rattle.books.specs.Book.{Model}
use Rattle.task_sheets.specs.Content as task
use Rattle.checks.specs.declared.fault.PlanFault.{PlanFault}
pub use Rattle.checks.specs.Bytes.{Opens, Says}
use Rattle.cards.specs.declared.fault.RunFault.{RunFault}
use Rattle.cards.specs.declared.fault.RunFault.TheVariants.{Plan}
use Rattle.recasts.specs.Recasts.{Recasts}
use Rattle.listings.specs.Listings.{book_in, task_in}

-- a sheet that is refused gives that refusal, and then nothing has changed; else the answer is as P says
abbrev pub Past : {X : Type 0} → Result (Unit {0}) PlanFault → Result X RunFault → Type 0 → Type 0 → Type 0
Past (Ok u) r same P = P
Past (Err f) r same P = (r ≡ Err (Plan f)) × same

-- the answer of a call on two sheets and a buffer: a sheet's refusal, or what is said of the book and the task
pub record OnSheets {X : Type 0} (bs ts before : List ℕ) (r : Result X RunFault) (after : List ℕ) (P : Model → task.Task → Type 0) : Type 0 where
  pub opened : Result (Unit {0}) PlanFault
  pub opens : Opens bs ts opened
  pub past : Past opened r (after ≡ before) (P (book_in bs) (task_in ts))

-- the recast from the bytes of two sheets
abbrev pub BytesRecast : List ℕ → List ℕ → List ℕ → Result ℕ RunFault → List ℕ → Type 0
BytesRecast bs ts before r after = OnSheets bs ts before r after (λ m t. Recasts m t before r after)
