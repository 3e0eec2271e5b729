-- What is said of a plan of an example: its answer, its places, its strata and its times, its moments.
use Rattle.std.specs.Prelude.{◌≡◌, ℕ, Bool, List, [], map, length, Ok, slice_index_or}
use Rattle.books.specs.Book.{Model}
use Rattle.books.specs.Listed.{listed}
use Rattle.plans.specs.Places.{Places, Arranged}
use Rattle.plans.specs.Plans.{singly, finally}
use Rattle.task_sheets.specs.Content.{Task, encode}
use Rattle.checks.specs.Checked.{Checked}
use Rattle.checks.specs.Tables.{places_in, Exact}
use Rattle.checks.specs.declared.arrangement.Place.{Place}
use Rattle.cards.specs.Moments.{Setting, Moment}
use Rattle.cards.specs.declared.state.State.{State}
use Rattle.cards.specs.declared.state.State.TheVariants.{Waiting}
use Rattle.timetables.specs.Measures.{StepCount, Seconds, step_scale, second_scale}
use Rattle.timetables.specs.Timetable.{Timetable, by_place}
use Rattle.timetables.specs.Strata.{Strata, ones, stratum_in}
use Rattle.recasts.specs.Layers.{restaged}
use Rattle.recasts.specs.Recasts.{RecastOf}

-- the final facts of the task's plan are these and no others
abbrev pub EndsWith : Model → Task → List ℕ → Type 0
EndsWith m t facts = (q : ℕ) → finally m (listed t.start) t.levels q ≡ listed facts q

-- done singly from the facts start on, the steps leave these facts and no others
abbrev pub Leaves : Model → List ℕ → List ℕ → List ℕ → Type 0
Leaves m start steps facts = (q : ℕ) → singly m (listed start) steps q ≡ listed facts q

-- the recast of the task has these levels, and its sheet so many bytes
pub record RecastAs (m : Model) (t : Task) (levels : List (List ℕ)) (bytes : ℕ) : Type 0 where
  pub recast : RecastOf m t (restaged t levels)
  pub sheet : length (encode (restaged t levels)) ≡ bytes

-- a step at a level; levels go by their numbers from 1
abbrev pub on : ℕ → ℕ → Place
on step level = record { step = step; level = level }

-- places in their order
abbrev pub placed : List Place → Places
placed places = places_in (length places) places

-- whether place u precedes place v, by the places that precede each place
abbrev pub preceding : List (List ℕ) → ℕ → ℕ → Bool
preceding rows u v = listed (slice_index_or rows v []) u

-- numbers of steps, numbers of seconds
abbrev pub steps : List ℕ → List StepCount
steps = map (λ n. record { count = n })

abbrev pub seconds : List ℕ → List Seconds
seconds = map (λ n. record { count = n })

-- the plan is accepted and these are its places, which of them precede each, the stratum of each and the number of strata
pub record Laid (m : Model) (t : Task) (places : List Place) (rows : List (List ℕ)) (stratum : List ℕ) (count : ℕ) : Type 0 where
  pub accepted : Checked m t (Ok tt)
  pub arranged : Arranged m t.levels (placed places)
  pub exact : Exact m (placed places) (preceding rows)
  pub table : Timetable step_scale (length places) (preceding rows) (by_place step_scale ones) (by_place step_scale (steps stratum)) (record { count = count })
  pub strata : Strata (length places) (preceding rows) (stratum_in (steps stratum)) count

-- the begins of these places and their end, by the seconds of the book
abbrev pub Timed : Model → List Place → List (List ℕ) → List ℕ → ℕ → Type 0
Timed m places rows begins end =
    Timetable second_scale (length places) (preceding rows)
    (by_place second_scale (seconds (map (λ x. m.seconds x.step) places))) (by_place second_scale (seconds begins)) (record { count = end })

-- a card of these places beside a book and a board of that span
abbrev pub card_of : Model → List Place → List (List ℕ) → ℕ → Setting
card_of m places rows span = record { book = m; span = span; places = placed places; precedes = preceding rows }

-- the places in these states, and these facts on the board
abbrev pub moment : List State → List ℕ → Moment
moment states facts = record { state = λ u. slice_index_or states u Waiting; board = listed facts }
