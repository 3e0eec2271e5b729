-- What a book sheet says, and the bytes that say it.
use Rattle.std.specs.Prelude.{◌≡◌, ℕ, zero, suc, ◌+◌, ◌*◌, ◌<◌, ◌≤◌, List, [], ◌∷◌, ◌++◌, length, ◌≢◌, slice_index, slice_index_or}
use Rattle.std.specs.List.{AllByRecursion}
use Rattle.books.specs.Book.{Model}
use Rattle.books.specs.Listed.{listed, members}
use Rattle.sheets.specs.Fields.{be16, be32, two, four, twos}
use Rattle.sheets.specs.Lists.{numbers_at, Ascending}
use Rattle.book_sheets.specs.Layout.{row_at, need_count, add_count, delete_count, lists_at}

-- a step: the facts that it needs, adds and deletes, each list ascending, and its seconds
pub record Step : Type 0 where
  pub needs : List ℕ
  pub adds : List ℕ
  pub deletes : List ℕ
  pub seconds : ℕ

-- a book: how many facts, and its steps
pub record Content : Type 0 where
  pub facts : ℕ
  pub steps : List Step

-- the row of a step whose lists begin at a byte
abbrev pub step_row : ℕ → Step → List ℕ
step_row at s = four at ++ (four s.seconds ++ (length s.needs ∷ length s.adds ∷ length s.deletes ∷ []))

-- the byte behind the lists of a step
abbrev pub past : ℕ → Step → ℕ
past at s = at + 2 * length s.needs + 2 * length s.adds + 2 * length s.deletes

abbrev pub step_rows : ℕ → List Step → List ℕ
step_rows at [] = []
step_rows at (s ∷ ss) = step_row at s ++ step_rows (past at s) ss

abbrev pub lists_of : Step → List ℕ
lists_of s = twos s.needs ++ (twos s.adds ++ twos s.deletes)

abbrev pub all_lists : List Step → List ℕ
all_lists [] = []
all_lists (s ∷ ss) = lists_of s ++ all_lists ss

-- the sheet of a content
abbrev pub encode : Content → List ℕ
encode c =
    two c.facts ++ (two (length c.steps) ++ (four 12 ++ (four (12 + 11 * length c.steps)
    ++ (step_rows (12 + 11 * length c.steps) c.steps ++ all_lists c.steps))))

-- step a, as the bytes say it
abbrev pub step_of : List ℕ → ℕ → Step
step_of xs a = record {
  needs = numbers_at xs (lists_at xs a) (need_count xs a);
  adds = numbers_at xs (lists_at xs a + 2 * need_count xs a) (add_count xs a);
  deletes = numbers_at xs (lists_at xs a + 2 * need_count xs a + 2 * add_count xs a) (delete_count xs a);
  seconds = be32 xs (row_at a + 4);
}

-- n steps from step a on
abbrev pub steps_from : List ℕ → ℕ → ℕ → List Step
steps_from xs a zero = []
steps_from xs a (suc n) = step_of xs a ∷ steps_from xs (suc a) n

-- what the bytes say
abbrev pub content : List ℕ → Content
content xs = record { facts = be16 xs 0; steps = steps_from xs 0 (be16 xs 2) }

-- a list of at most 250 facts below f, ascending
pub record LawfulList (f : ℕ) (ps : List ℕ) : Type 0 where
  pub few : length ps ≤ 250
  pub ascending : Ascending f ps

pub record LawfulStep (f : ℕ) (s : Step) : Type 0 where
  pub needs : LawfulList f s.needs
  pub adds : LawfulList f s.adds
  pub deletes : LawfulList f s.deletes
  -- no fact is both added and deleted
  pub apart : (i j : ℕ) → i < length s.adds → j < length s.deletes → slice_index s.adds i ≢ slice_index s.deletes j
  pub short : s.seconds ≤ 1000000

-- a content that a sheet may say
pub record LawfulContent (c : Content) : Type 0 where
  pub few_facts : c.facts ≤ 1024
  pub few_steps : length c.steps ≤ 512
  pub each : AllByRecursion (LawfulStep c.facts) c.steps

-- the step that needs, adds and deletes nothing
abbrev pub empty_step : Step
empty_step = record { needs = []; adds = []; deletes = []; seconds = 0 }

-- the book that a content means: step a is its step number a, and none past the last
abbrev pub model_of : Content → Model
model_of c = record {
  facts = c.facts;
  steps = length c.steps;
  needs = λ a. listed (slice_index_or c.steps a empty_step).needs;
  adds = λ a. listed (slice_index_or c.steps a empty_step).adds;
  deletes = λ a. listed (slice_index_or c.steps a empty_step).deletes;
  seconds = λ a. (slice_index_or c.steps a empty_step).seconds;
}

-- step a of a book, as a sheet says it
abbrev pub step_in : Model → ℕ → Step
step_in m a = record {
  needs = members (m.needs a) m.facts;
  adds = members (m.adds a) m.facts;
  deletes = members (m.deletes a) m.facts;
  seconds = m.seconds a;
}

abbrev pub steps_in : Model → ℕ → List Step
steps_in m zero = []
steps_in m (suc n) = steps_in m n ++ (step_in m n ∷ [])

-- the content of a book
abbrev pub content_of : Model → Content
content_of m = record { facts = m.facts; steps = steps_in m m.steps }

-- two books mean the same
pub record Same (m k : Model) : Type 0 where
  pub facts : m.facts ≡ k.facts
  pub steps : m.steps ≡ k.steps
  pub needs : (a p : ℕ) → m.needs a p ≡ k.needs a p
  pub adds : (a p : ℕ) → m.adds a p ≡ k.adds a p
  pub deletes : (a p : ℕ) → m.deletes a p ≡ k.deletes a p
  pub seconds : (a : ℕ) → m.seconds a ≡ k.seconds a
