-- What the recast of a task is, and what its writing answers and leaves.
use Rattle.std.specs.Prelude.{◌≡◌, ℕ, ◌<◌, ◌≤◌, List, ◌++◌, length, drop, Ok, Err, Result}
use Rattle.std.specs.List.{AllByRecursion}
use Rattle.books.specs.Book.{Model}
use Rattle.books.specs.Listed.{listed}
use Rattle.sheets.specs.Verdicts.{fine}
use Rattle.sheets.specs.declared.writing.TooShort.{TooShort}
use Rattle.task_sheets.specs.Layout.{task_verdict}
use Rattle.task_sheets.specs.Content.{Task, encode, content, LawfulTask}
use Rattle.plans.specs.Plans.{finally}
use Rattle.plans.specs.Places.{Arranged}
use Rattle.plans.specs.Laws.{Calm}
use Rattle.plans.specs.Recasting.{StrataOf}
use Rattle.checks.specs.Checked.{Checked}
use Rattle.checks.specs.Tables.{places_in, Exact}
use Rattle.cards.specs.Cards.{size_of, precedes_of}
use Rattle.cards.specs.declared.card.Card.{Card}
use Rattle.cards.specs.declared.fault.RunFault.{RunFault}
use Rattle.cards.specs.declared.fault.RunFault.TheVariants.{Plan, InHand, SpanTooSmall, NoPlace, WrongState, Unfinished, TooShort as Short}
use Rattle.timetables.specs.Strata.{Strata, stratum_in}
use Rattle.timetables.specs.Measures.{StepCount}
use Rattle.recasts.specs.Layers.{strata_in, restaged}

-- t' is the recast of t: the same task with the strata of its plan for levels
pub record RecastOf (m : Model) (t t' : Task) : Type 0 where
  pub facts : t'.facts ≡ t.facts
  pub steps : t'.steps ≡ t.steps
  pub start : t'.start ≡ t.start
  pub goal : t'.goal ≡ t.goal
  pub strata : StrataOf m t.levels t'.levels

-- what holds of the recast t' of an accepted task t
pub record Good (m : Model) (t t' : Task) : Type 0 where
  -- its sheet opens and says it
  pub lawful : LawfulTask t'
  pub opens : task_verdict (encode t') ≡ fine
  pub says : content (encode t') ≡ t'
  -- it is accepted, with the same final facts
  pub accepted : Checked m t' (Ok tt)
  pub same : (p : ℕ) → finally m (listed t'.start) t'.levels p ≡ finally m (listed t.start) t.levels p
  -- no two different steps of one level disturb each other
  pub calm : AllByRecursion (Calm m) t'.levels
  -- recast again it is the same, and there is no other recast of it
  pub again : RecastOf m t' t'
  pub only : (t'' : Task) → RecastOf m t' t'' → t'' ≡ t'

-- the card has the places of the task's plan, and exactly which of them precede which
pub record CardOf (m : Model) (t : Task) (c : Card) : Type 0 where
  pub arranged : Arranged m t.levels (places_in c.plan.count c.plan.places)
  pub exact : Exact m (places_in c.plan.count c.plan.places) (precedes_of c)

-- the length of the task's sheet, which now begins the buffer; or, where the buffer is shorter, the length that is needed,
-- and the buffer as it was
abbrev pub SheetWritten : Task → List ℕ → Result ℕ TooShort → List ℕ → Type 0
SheetWritten t before (Ok n) after = (n ≡ length (encode t)) × (n ≤ length before) × (after ≡ encode t ++ drop n before)
SheetWritten t before (Err e) after = (e.needed ≡ length (encode t)) × (length before < e.needed) × (after ≡ before)

-- the task with the strata of a card for its levels is written so, whatever places the card has
pub record StrataWritten (t : Task) (c : Card) (before : List ℕ) (r : Result ℕ TooShort) (after : List ℕ) : Type 0 where
  pub begins : List StepCount
  pub count : ℕ
  pub strata : Strata (size_of c) (precedes_of c) (stratum_in begins) count
  pub written : SheetWritten (restaged t (strata_in c begins count)) before r after

-- the recast of a task is written so
pub record RecastWritten (m : Model) (t : Task) (before : List ℕ) (r : Result ℕ TooShort) (after : List ℕ) : Type 0 where
  pub task : Task
  pub recast : RecastOf m t task
  pub good : Good m t task
  pub written : SheetWritten task before r after

-- the answer to a recast, from the buffer before and after it: the plan is looked at first, then the buffer
abbrev pub Recasts : Model → Task → List ℕ → Result ℕ RunFault → List ℕ → Type 0
Recasts m t before (Ok n) after = Checked m t (Ok tt) × RecastWritten m t before (Ok n) after
Recasts m t before (Err (Plan f)) after = Checked m t (Err f) × (after ≡ before)
Recasts m t before (Err (Short e)) after = Checked m t (Ok tt) × RecastWritten m t before (Err e) after
Recasts m t before (Err InHand) after = ⊥
Recasts m t before (Err SpanTooSmall) after = ⊥
Recasts m t before (Err NoPlace) after = ⊥
Recasts m t before (Err WrongState) after = ⊥
Recasts m t before (Err (Unfinished u)) after = ⊥

-- no recast has two answers, nor leaves two buffers; so every accepted plan is recast, unless the buffer is too short
abbrev pub OneRecastAnswer : Type 0
OneRecastAnswer =
    (m : Model) (t : Task) (before : List ℕ) (r r' : Result ℕ RunFault) (after after' : List ℕ)
    → Recasts m t before r after → Recasts m t before r' after' → (r ≡ r') × (after ≡ after')
