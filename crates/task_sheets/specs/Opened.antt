-- What an open task sheet means, and the law of opening.
use Rattle.std.specs.Prelude.{◌≡◌, ℕ, ◌<◌, List, [], ◌∷◌, Some, None, Option, IsSome, slice_index}
use Rattle.std.specs.Option.{option_map_or}
use Rattle.sheets.specs.Verdicts.{fine}
use Rattle.task_sheets.specs.declared.task_sheet.TaskSheet.{TaskSheet}
use Rattle.sheets.specs.declared.numbers.Numbers.{Numbers}
use Rattle.task_sheets.specs.declared.levels.Levels.{Levels}
use Rattle.task_sheets.specs.Layout.{task_verdict}
use Rattle.task_sheets.specs.Content.{Task, no_task, encode, content, levels_from, LawfulTask}
use Rattle.task_sheets.specs.Parts.{numbers_of}

-- the bytes that a sheet reads: those that were opened, and else those of the task of no facts, steps and levels
abbrev pub bytes_of : TaskSheet → List ℕ
bytes_of s = option_map_or (λ bytes. bytes.now) s.opened (encode no_task)

-- the task that a sheet says
abbrev pub task_of : TaskSheet → Task
task_of s = content (bytes_of s)

-- a sheet that was opened on these bytes
pub record Reads (s : TaskSheet) (xs : List ℕ) : Type 0 where
  pub opened : IsSome s.opened
  pub bytes : bytes_of s ≡ xs

-- the bytes are the sheet of a lawful task
pub record SheetOf (t : Task) (xs : List ℕ) : Type 0 where
  pub lawful : LawfulTask t
  pub encoded : xs ≡ encode t

-- the bytes are the sheet of the task that they say, and of no other
pub record SaysOne (xs : List ℕ) : Type 0 where
  pub says : SheetOf (content xs) xs
  pub only : (t : Task) → SheetOf t xs → t ≡ content xs

-- the bytes are the sheet of no task
abbrev pub SaysNone : List ℕ → Type 0
SaysNone xs = (t : Task) → SheetOf t xs → ⊥

-- one sheet for each lawful task: it opens and says that task, and two sheets that say the same are the same bytes
pub record OneSheetEach : Type 0 where
  pub opens : (t : Task) → LawfulTask t → task_verdict (encode t) ≡ fine
  pub said : (t : Task) → LawfulTask t → content (encode t) ≡ t
  pub same : (xs ys : List ℕ) → ((i : ℕ) → slice_index xs i < 256) → ((i : ℕ) → slice_index ys i < 256)
      → task_verdict xs ≡ fine → task_verdict ys ≡ fine → content xs ≡ content ys → xs ≡ ys

-- the levels that are still to come
abbrev pub rest : Levels → List (List ℕ)
rest l = levels_from l.bytes.now l.at l.left

-- one turn: the next level and the levels after it, or the end of the plan
abbrev pub Turn : Levels → Option Numbers → Levels → Type 0
Turn l None m = (rest l ≡ []) × (m ≡ l)
Turn l (Some n) m = rest l ≡ numbers_of n ∷ rest m
