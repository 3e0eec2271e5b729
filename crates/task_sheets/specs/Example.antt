-- The task sheet that is worked through byte by byte: a task in two levels on the rack of 2 loggers and 1 bath.
use Rattle.std.specs.Prelude.{◌≡◌, ℕ, List, [], ◌∷◌, ◌++◌, take, Err}
use Rattle.sheets.specs.declared.fault.Refusal.TheVariants.{Short, EmptyLevel, Trailing}
use Rattle.sheets.specs.Verdicts.{fine, refused}
use Rattle.task_sheets.specs.Layout.{task_verdict}
use Rattle.task_sheets.specs.Content.{Task, LawfulTask, no_task, encode, content}

abbrev pub two_level_bytes : List ℕ
two_level_bytes =
    0 ∷ 7 ∷ 0 ∷ 7 ∷ 0 ∷ 2 ∷ 0 ∷ 4
    ∷ 0 ∷ 0 ∷ 0 ∷ 20 ∷ 0 ∷ 0 ∷ 0 ∷ 26 ∷ 0 ∷ 0 ∷ 0 ∷ 30
    ∷ 0 ∷ 2 ∷ 0 ∷ 2 ∷ 0 ∷ 3
    ∷ 0 ∷ 1 ∷ 0 ∷ 5
    ∷ 0 ∷ 2 ∷ 0 ∷ 0 ∷ 0 ∷ 6
    ∷ 0 ∷ 2 ∷ 0 ∷ 1 ∷ 0 ∷ 4 ∷ []

-- from both loggers on the shelf: put logger 0 in and settle, read it and put logger 1 in; the goal is that logger 0 is read
abbrev pub two_level_task : Task
two_level_task = record { facts = 7; steps = 7; start = 2 ∷ 3 ∷ []; goal = 5 ∷ []; levels = (0 ∷ 6 ∷ []) ∷ (1 ∷ 4 ∷ []) ∷ [] }

-- the sheet is the encoding of the task, and opens; cut or with a byte more it does not, nor does that of a task with a level
-- without steps; the task of nothing has a sheet
pub record Worked : Type 0 where
  pub lawful : LawfulTask two_level_task
  pub encoded : encode two_level_task ≡ two_level_bytes
  pub opens : task_verdict two_level_bytes ≡ fine
  pub says : content two_level_bytes ≡ two_level_task
  pub cut : task_verdict (take 41 two_level_bytes) ≡ Err (refused Short 41)
  pub trailing : task_verdict (two_level_bytes ++ 0 ∷ []) ≡ Err (refused Trailing 42)
  pub no_steps : task_verdict (encode (record { facts = 7; steps = 7; start = []; goal = []; levels = [] ∷ [] })) ≡ Err (refused EmptyLevel 24)
  pub nothing : task_verdict (encode no_task) ≡ fine
