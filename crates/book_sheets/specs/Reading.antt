-- What is found of a step in a book sheet.
use Rattle.std.specs.Prelude.{◌≡◌, ℕ, ◌+◌, ◌<◌, ◌≤◌, false, List, length}
use Rattle.sheets.specs.Fields.{be16, be32}
use Rattle.sheets.specs.Numbers.{numbers_of, has_number}
use Rattle.book_sheets.specs.declared.step_lists.StepLists.{StepLists}
use Rattle.book_sheets.specs.Layout.{row_at}
use Rattle.book_sheets.specs.Content.{content, model_of}

-- the row of step a, which is there, stands at a byte and says the step's seconds
pub record Row (xs : List ℕ) (a at : ℕ) : Type 0 where
  pub there : a < be16 xs 2
  pub place : at ≡ row_at a
  pub ends : at + 11 ≤ length xs
  pub seconds : be32 xs (at + 4) ≡ (model_of (content xs)).seconds a

-- there is no step a, and no time for it
pub record NoRow (xs : List ℕ) (a : ℕ) : Type 0 where
  pub past : be16 xs 2 ≤ a
  pub seconds : 0 ≡ (model_of (content xs)).seconds a

-- the lists say the facts that step a needs, adds and deletes
pub record Lists (xs : List ℕ) (a : ℕ) (lists : StepLists) : Type 0 where
  pub needs : (p : ℕ) → has_number (numbers_of lists.needs.numbers) p ≡ (model_of (content xs)).needs a p
  pub adds : (p : ℕ) → has_number (numbers_of lists.adds.numbers) p ≡ (model_of (content xs)).adds a p
  pub deletes : (p : ℕ) → has_number (numbers_of lists.deletes.numbers) p ≡ (model_of (content xs)).deletes a p

-- there is no step a, and it needs, adds and deletes nothing
pub record NoLists (xs : List ℕ) (a : ℕ) : Type 0 where
  pub needs : (p : ℕ) → false ≡ (model_of (content xs)).needs a p
  pub adds : (p : ℕ) → false ≡ (model_of (content xs)).adds a p
  pub deletes : (p : ℕ) → false ≡ (model_of (content xs)).deletes a p
