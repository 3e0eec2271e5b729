-- One sheet for each book.
use Rattle.std.specs.Prelude.{◌≡◌, ℕ, ◌<◌, true, List, [], is_ok, slice_index}
use Rattle.book_sheets.specs.Layout.{book_verdict}
use Rattle.book_sheets.specs.Content.{Content, LawfulContent, encode, content, model_of, Same}

-- the book without facts and steps
abbrev pub blank : Content
blank = record { facts = 0; steps = [] }

-- each number is a byte
abbrev pub Bytes : List ℕ → Type 0
Bytes xs = (i : ℕ) → slice_index xs i < 256

-- the sheet opens
abbrev pub Opens : List ℕ → Type 0
Opens xs = is_ok (book_verdict xs) ≡ true

-- the bytes are the sheet of a lawful content
pub record SheetOf (xs : List ℕ) (c : Content) : Type 0 where
  pub lawful : LawfulContent c
  pub same : xs ≡ encode c

pub record OneSheet : Type 0 where
  -- the sheet of a lawful content opens and says that content, so two contents never have one sheet
  pub opens : (c : Content) → LawfulContent c → Opens (encode c)
  pub says : (c : Content) → LawfulContent c → content (encode c) ≡ c
  -- what opens is the sheet of the content that it says
  pub sheet : (xs : List ℕ) → Bytes xs → Opens xs → SheetOf xs (content xs)
  -- sheets that mean the same book are the same bytes
  pub one : (xs ys : List ℕ) → Bytes xs → Bytes ys → Opens xs → Opens ys → Same (model_of (content xs)) (model_of (content ys)) → xs ≡ ys
