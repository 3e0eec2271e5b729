-- The book sheet that is worked through byte by byte: the rack of 2 loggers and 1 bath.
use Rattle.std.specs.Prelude.{◌≡◌, ℕ, List, [], ◌∷◌, ◌++◌, take, Err}
use Rattle.sheets.specs.declared.fault.Refusal.TheVariants.{Short, Trailing}
use Rattle.sheets.specs.Verdicts.{fine, refused}
use Rattle.book_sheets.specs.Layout.{book_verdict}
use Rattle.book_sheets.specs.Content.{Content, LawfulContent, encode, content}
use Rattle.book_sheets.specs.Laws.{blank}

abbrev pub rack_bytes : List ℕ
rack_bytes =
    0 ∷ 7 ∷ 0 ∷ 7 ∷ 0 ∷ 0 ∷ 0 ∷ 12 ∷ 0 ∷ 0 ∷ 0 ∷ 89
    ∷ 0 ∷ 0 ∷ 0 ∷ 89 ∷ 0 ∷ 0 ∷ 0 ∷ 60 ∷ 1 ∷ 1 ∷ 2
    ∷ 0 ∷ 0 ∷ 0 ∷ 97 ∷ 0 ∷ 0 ∷ 0 ∷ 60 ∷ 1 ∷ 1 ∷ 2
    ∷ 0 ∷ 0 ∷ 0 ∷ 105 ∷ 0 ∷ 0 ∷ 0 ∷ 60 ∷ 1 ∷ 1 ∷ 1
    ∷ 0 ∷ 0 ∷ 0 ∷ 111 ∷ 0 ∷ 0 ∷ 0 ∷ 60 ∷ 1 ∷ 1 ∷ 1
    ∷ 0 ∷ 0 ∷ 0 ∷ 117 ∷ 0 ∷ 0 ∷ 0 ∷ 60 ∷ 2 ∷ 1 ∷ 0
    ∷ 0 ∷ 0 ∷ 0 ∷ 123 ∷ 0 ∷ 0 ∷ 0 ∷ 60 ∷ 2 ∷ 1 ∷ 0
    ∷ 0 ∷ 0 ∷ 0 ∷ 129 ∷ 0 ∷ 0 ∷ 7 ∷ 8 ∷ 0 ∷ 1 ∷ 0
    ∷ 0 ∷ 2 ∷ 0 ∷ 0 ∷ 0 ∷ 2 ∷ 0 ∷ 4
    ∷ 0 ∷ 3 ∷ 0 ∷ 1 ∷ 0 ∷ 3 ∷ 0 ∷ 4
    ∷ 0 ∷ 0 ∷ 0 ∷ 2 ∷ 0 ∷ 0
    ∷ 0 ∷ 1 ∷ 0 ∷ 3 ∷ 0 ∷ 1
    ∷ 0 ∷ 0 ∷ 0 ∷ 4 ∷ 0 ∷ 5
    ∷ 0 ∷ 1 ∷ 0 ∷ 4 ∷ 0 ∷ 6
    ∷ 0 ∷ 4 ∷ []

-- put logger 0, 1 in; take it out; read it; settle the bath
abbrev pub rack_content : Content
rack_content = record {
  facts = 7;
  steps =
      record { needs = 2 ∷ []; adds = 0 ∷ []; deletes = 2 ∷ 4 ∷ []; seconds = 60 }
      ∷ record { needs = 3 ∷ []; adds = 1 ∷ []; deletes = 3 ∷ 4 ∷ []; seconds = 60 }
      ∷ record { needs = 0 ∷ []; adds = 2 ∷ []; deletes = 0 ∷ []; seconds = 60 }
      ∷ record { needs = 1 ∷ []; adds = 3 ∷ []; deletes = 1 ∷ []; seconds = 60 }
      ∷ record { needs = 0 ∷ 4 ∷ []; adds = 5 ∷ []; deletes = []; seconds = 60 }
      ∷ record { needs = 1 ∷ 4 ∷ []; adds = 6 ∷ []; deletes = []; seconds = 60 }
      ∷ record { needs = []; adds = 4 ∷ []; deletes = []; seconds = 1800 }
      ∷ [];
}

-- the sheet is the encoding of the rack, and opens; cut or with a byte more it does not; neither do no bytes, but the book of
-- nothing has a sheet
pub record Worked : Type 0 where
  pub lawful : LawfulContent rack_content
  pub encoded : encode rack_content ≡ rack_bytes
  pub opens : book_verdict rack_bytes ≡ fine
  pub says : content rack_bytes ≡ rack_content
  pub cut : book_verdict (take 130 rack_bytes) ≡ Err (refused Short 130)
  pub trailing : book_verdict (rack_bytes ++ 0 ∷ []) ≡ Err (refused Trailing 131)
  pub no_bytes : book_verdict [] ≡ Err (refused Short 0)
  pub nothing : book_verdict (encode blank) ≡ fine
