-- The header of a task sheet.
use Rattle.std.specs.Prelude.{◌≡◌, ℕ, ◌+◌, List, ◌++◌}
use Rattle.sheets.specs.Fields.{two, four}
use Rattle.task_sheets.specs.Layout.{start_at}
use Rattle.task_sheets.specs.Content.{Task}
use Rattle.recasts.specs.declared.lists.Header.{Header}

abbrev pub header_bytes : Header → List ℕ
header_bytes h =
    two h.facts ++ (two h.steps ++ (two h.levels ++ (two h.total ++ (four start_at ++ (four h.goal ++ four h.plan)))))

-- the header of a task with so many levels and steps in all of them, where its start and goal lists take so many bytes
pub record HeaderOf (t : Task) (many all starts goals : ℕ) (h : Header) : Type 0 where
  pub facts : h.facts ≡ t.facts
  pub steps : h.steps ≡ t.steps
  pub levels : h.levels ≡ many
  pub total : h.total ≡ all
  pub goal : h.goal ≡ start_at + starts
  pub plan : h.plan ≡ start_at + starts + goals
