-- What a draft holds of a plan.
use Rattle.std.specs.Prelude.{◌≡◌, ℕ, ◌<◌, List, length, map, take, slice_index_or}
use Rattle.std.specs.List.{HoldsAt}
use Rattle.facts.specs.Sets.{holds}
use Rattle.books.specs.Book.{Model}
use Rattle.books.specs.Gathered.{Gathers}
use Rattle.plans.specs.Places.{Places, Arranged}
use Rattle.task_sheets.specs.Content.{Task, total}
use Rattle.checks.specs.declared.arrangement.Place.{Place}
use Rattle.checks.specs.declared.draft.PlacedStep.{PlacedStep}
use Rattle.checks.specs.Tables.{blank, places_in}
use Rattle.checks.specs.Checked.{PassTo, facts_after_levels}

-- the places of a draft, without the facts of their steps
abbrev pub placed : List PlacedStep → List Place
placed d = map (λ s. s.place) d

abbrev pub places_of : List PlacedStep → Places
places_of d = places_in (length d) (placed d)

-- the steps of a draft, and the numbers of their levels
abbrev pub steps_of : List PlacedStep → List ℕ
steps_of d = map (λ s. s.place.step) d

abbrev pub levels_of : List PlacedStep → List ℕ
levels_of d = map (λ s. s.place.level) d

-- beside each place stand the facts of its step
abbrev pub Told : Model → List PlacedStep → Type 0
Told m d = (u : ℕ) → u < length d → HoldsAt (λ s. Gathers m s.place.step s.facts) d u

-- each place has a level, from 1 on, and beside it the facts of its step
pub record Filled (m : Model) (d : List PlacedStep) : Type 0 where
  pub facts : Told m d
  pub level : (u : ℕ) → u < length d → 0 < (slice_index_or (placed d) u blank).level

-- the first k levels pass and leave these facts, and the draft holds their places
pub record Drafted (m : Model) (t : Task) (k : ℕ) (words : List ℕ) (d : List PlacedStep) : Type 0 where
  pub passed : PassTo m t k
  pub facts : (q : ℕ) → holds words q ≡ facts_after_levels m t k q
  pub arranged : Arranged m (take k t.levels) (places_of d)
  pub count : length d ≡ total (take k t.levels)
  pub filled : Filled m d

-- the draft holds the places of the whole plan
pub record PlanDrafted (m : Model) (t : Task) (d : List PlacedStep) : Type 0 where
  pub arranged : Arranged m t.levels (places_of d)
  pub filled : Filled m d
