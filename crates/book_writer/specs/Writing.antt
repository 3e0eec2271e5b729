-- The sheet of a book, and what its writing answers and leaves.
use Rattle.std.specs.Prelude.{◌≡◌, ℕ, ◌<◌, ◌≤◌, List, ◌++◌, length, drop, Ok, Err, Result}
use Rattle.books.specs.Book.{Model}
use Rattle.sheets.specs.declared.writing.TooShort.{TooShort}
use Rattle.book_sheets.specs.Content.{Content, content_of, encode, content, LawfulContent, model_of, Same}
use Rattle.book_sheets.specs.Laws.{Bytes, Opens, SheetOf}

-- the bytes of the sheet of a book
abbrev pub bytes_of : Model → List ℕ
bytes_of m = encode (content_of m)

-- the length of the sheet, which now begins the buffer; or, where the buffer is shorter, the length that is needed, and
-- the buffer as it was
abbrev pub Writes : Model → List ℕ → Result ℕ TooShort → List ℕ → Type 0
Writes m before (Ok n) after = (n ≡ length (bytes_of m)) × (n ≤ length before) × (after ≡ bytes_of m ++ drop n before)
Writes m before (Err e) after = (e.needed ≡ length (bytes_of m)) × (length before < e.needed) × (after ≡ before)

-- the bytes are a sheet that opens, and it means the book
pub record Means (xs : List ℕ) (m : Model) : Type 0 where
  pub sheet : SheetOf xs (content_of m)
  pub opens : Opens xs
  pub same : Same (model_of (content xs)) m

-- a book written, read and written again
pub record Again : Type 0 where
  -- a lawful content is the content of the book that it means
  pub says : (c : Content) → LawfulContent c → content_of (model_of c) ≡ c
  -- the sheet of the book that a sheet means is that sheet
  pub bytes : (xs : List ℕ) → Bytes xs → Opens xs → bytes_of (model_of (content xs)) ≡ xs
