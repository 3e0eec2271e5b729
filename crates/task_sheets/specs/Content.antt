-- What a task sheet says, and the bytes that say it.
use Rattle.std.specs.Prelude.{ℕ, zero, suc, ◌+◌, ◌*◌, ◌<◌, ◌≤◌, List, [], ◌∷◌, ◌++◌, length}
use Rattle.std.specs.List.{AllByRecursion}
use Rattle.sheets.specs.Fields.{be16, two, four, twos}
use Rattle.sheets.specs.Lists.{numbers_at, Ascending}
use Rattle.task_sheets.specs.Layout.{past, start_at, goal_at, level_begins_at}

-- a task: how many facts and steps, the start facts, the goal facts, and the steps of each level
pub record Task : Type 0 where
  pub facts : ℕ
  pub steps : ℕ
  pub start : List ℕ
  pub goal : List ℕ
  pub levels : List (List ℕ)

-- the task of no facts, steps and levels
abbrev pub no_task : Task
no_task = record { facts = 0; steps = 0; start = []; goal = []; levels = [] }

-- a list in a sheet: its count, then its numbers
abbrev pub list_bytes : List ℕ → List ℕ
list_bytes ps = two (length ps) ++ twos ps

abbrev pub plan_bytes : List (List ℕ) → List ℕ
plan_bytes [] = []
plan_bytes (ps ∷ rest) = list_bytes ps ++ plan_bytes rest

-- the byte behind a list that begins at a byte
abbrev pub behind : ℕ → List ℕ → ℕ
behind at ps = at + 2 + 2 * length ps

-- how many steps all levels have
abbrev pub total : List (List ℕ) → ℕ
total [] = 0
total (ps ∷ rest) = length ps + total rest

-- the sheet of a task
abbrev pub encode : Task → List ℕ
encode t =
    two t.facts ++ (two t.steps ++ (two (length t.levels) ++ (two (total t.levels)
    ++ (four start_at ++ (four (behind start_at t.start) ++ (four (behind (behind start_at t.start) t.goal)
    ++ (list_bytes t.start ++ (list_bytes t.goal ++ plan_bytes t.levels))))))))

-- the list that begins at a byte, as the bytes say it
abbrev pub list_at : List ℕ → ℕ → List ℕ
list_at xs at = numbers_at xs (at + 2) (be16 xs at)

-- the n levels from a byte on
abbrev pub levels_from : List ℕ → ℕ → ℕ → List (List ℕ)
levels_from xs at zero = []
levels_from xs at (suc n) = list_at xs at ∷ levels_from xs (past xs at) n

-- what the bytes say
abbrev pub content : List ℕ → Task
content xs = record {
  facts = be16 xs 0;
  steps = be16 xs 2;
  start = list_at xs start_at;
  goal = list_at xs (goal_at xs);
  levels = levels_from xs (level_begins_at xs 0) (be16 xs 4);
}

-- a level has steps, in ascending order
pub record LawfulLevel (steps : ℕ) (ps : List ℕ) : Type 0 where
  pub some : 0 < length ps
  pub ascending : Ascending steps ps

-- a task that a sheet may say
pub record LawfulTask (t : Task) : Type 0 where
  pub few_facts : t.facts ≤ 1024
  pub few_steps : t.steps ≤ 512
  pub few_levels : length t.levels ≤ 256
  pub few_in_all : total t.levels ≤ 256
  pub start : Ascending t.facts t.start
  pub goal : Ascending t.facts t.goal
  pub each : AllByRecursion (LawfulLevel t.steps) t.levels
