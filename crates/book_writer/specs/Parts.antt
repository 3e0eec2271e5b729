-- The parts of a book's sheet, as they are written one after the other.
use Rattle.std.specs.Prelude.{◌≡◌, ℕ, ◌+◌, ◌*◌, ◌<◌, Bool, List, ◌++◌, length}
use Rattle.books.specs.Book.{Facts, Model}
use Rattle.sheets.specs.Fields.{two, four}
use Rattle.book_writer.specs.declared.writer.Sizes.{Sizes}
use Rattle.book_sheets.specs.Content.{Step, step_rows, all_lists, steps_in}

-- the answers to questions about the numbers below n are those of the set
abbrev pub Tells : (ℕ → Bool → Type 0) → ℕ → Facts → Type 0
Tells answers n set = (p : ℕ) (answer : Bool) → p < n → answers p answer → answer ≡ set p

-- the sizes of the lists of a step
pub record SizesOf (s : Step) (z : Sizes) : Type 0 where
  pub needs : z.needs ≡ length s.needs
  pub adds : z.adds ≡ length s.adds
  pub deletes : z.deletes ≡ length s.deletes

-- header, rows and lists
abbrev pub header_of : Model → List ℕ
header_of m = two m.facts ++ (two m.steps ++ (four 12 ++ four (12 + 11 * m.steps)))

abbrev pub rows_of : Model → List ℕ
rows_of m = step_rows (12 + 11 * m.steps) (steps_in m m.steps)

abbrev pub lists_in : Model → List ℕ
lists_in m = all_lists (steps_in m m.steps)
