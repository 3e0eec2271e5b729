-- The steps of a card's places by stratum, as the levels of a plan.
use Rattle.std.specs.Prelude.{ℕ, zero, suc, false, ◌&&◌, ◌||◌, List, [], ◌∷◌, ◌++◌, ◌==◌}
use Rattle.books.specs.Book.{Facts}
use Rattle.books.specs.Listed.{members}
use Rattle.cards.specs.Cards.{size_of, place_of}
use Rattle.cards.specs.declared.card.Card.{Card}
use Rattle.task_sheets.specs.Content.{Task}
use Rattle.timetables.specs.Strata.{stratum_in}
use Rattle.timetables.specs.Measures.{StepCount}
use Rattle.recasts.specs.declared.layers.Layers.{Layers}

-- places by number, each with its step and its stratum
module _ (step stratum : ℕ → ℕ) where
  -- whether a is the step of one of the first n places that is of stratum k
  abbrev pub steps_at : ℕ → ℕ → Facts
  steps_at k zero a = false
  steps_at k (suc n) a = steps_at k n a || (stratum n == k && a == (step n))

  -- the first k strata of the first n places, each with its steps in ascending order
  abbrev pub rows_at : ℕ → ℕ → List (List ℕ)
  rows_at n zero = []
  rows_at n (suc k) = rows_at n k ++ (members (steps_at k n) 512 ∷ [])

-- the first strata of a card, by a list of the stratum of each place
abbrev pub step_in : Card → ℕ → ℕ
step_in c u = (place_of c u).step

abbrev pub strata_in : Card → List StepCount → ℕ → List (List ℕ)
strata_in c begins = rows_at (step_in c) (stratum_in begins) (size_of c)

-- the task with other levels
abbrev pub restaged : Task → List (List ℕ) → Task
restaged t levels = record { facts = t.facts; steps = t.steps; start = t.start; goal = t.goal; levels = levels }

-- the same of the card and the strata that a program holds: a place's step and stratum, the steps of a stratum, the first
-- strata, all strata
abbrev pub step_of : Layers → ℕ → ℕ
step_of l = step_in l.card.now

abbrev pub stratum_of : Layers → ℕ → ℕ
stratum_of l = stratum_in l.strata.now

abbrev pub steps_of : Layers → ℕ → Facts
steps_of l k = steps_at (step_of l) (stratum_of l) k (size_of l.card.now)

abbrev pub levels_below : Layers → ℕ → List (List ℕ)
levels_below l = strata_in l.card.now l.strata.now

abbrev pub levels_of : Layers → List (List ℕ)
levels_of l = levels_below l l.count

abbrev pub layered : Task → Layers → Task
layered t l = restaged t (levels_of l)
