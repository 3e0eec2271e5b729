-- What a listing shows of a plan that is accepted, and the text that shows it.
use Rattle.std.specs.Prelude.{◌≡◌, ℕ, zero, suc, ◌-◌, ◌<◌, Bool, true, List, [], ◌++◌, length}
use Rattle.books.specs.Book.{Model}
use Rattle.plans.specs.Places.{Places, Arranged}
use Rattle.task_sheets.specs.Content.{Task}
use Rattle.checks.specs.Tables.{Exact}
use Rattle.timetables.specs.Measures.{step_scale, second_scale}
use Rattle.timetables.specs.Timetable.{Timetable}
use Rattle.timetables.specs.Strata.{Strata}
use Rattle.listings.specs.Lines.{head_line, place_line}

-- how many places, levels and strata there are, the end in seconds, and of each place its step, its level by number from 1,
-- its stratum and its begin in seconds
pub record Shown : Type 0 where
  pub places : ℕ
  pub levels : ℕ
  pub strata : ℕ
  pub seconds : ℕ
  pub step : ℕ → ℕ
  pub level : ℕ → ℕ
  pub stratum : ℕ → ℕ
  pub begin : ℕ → ℕ

-- the lines of the places below n
abbrev pub place_lines : Shown → ℕ → List ℕ
place_lines s zero = []
place_lines s (suc n) = place_lines s n ++ place_line n (s.step n) (s.level n) (s.stratum n) (s.begin n)

abbrev pub shown_text : Shown → List ℕ
shown_text s = head_line s.places s.levels s.strata s.seconds ++ place_lines s s.places

-- the places that are shown; their levels count from 0 here
abbrev pub places_of : Shown → Places
places_of s = record { size = s.places; step = s.step; level = λ u. s.level u - 1 }

-- what is to be shown of the plan of the task t by the book m
pub record Shows (m : Model) (t : Task) (s : Shown) : Type 0 where
  -- the places are the picked orders of the plan's levels, one after the other
  pub arranged : Arranged m t.levels (places_of s)
  pub numbered : (u : ℕ) → u < s.places → 0 < s.level u
  pub levels : s.levels ≡ length t.levels
  -- which of the places precede which
  pub precedes : ℕ → ℕ → Bool
  pub inside : (u v : ℕ) → precedes u v ≡ true → (u < s.places) × (v < s.places)
  pub exact : Exact m (places_of s) precedes
  -- the strata are the timetable in step counts with weight 1 for every place
  pub strata : Timetable step_scale s.places precedes (λ v. record { count = 1 }) (λ v. record { count = s.stratum v }) (record { count = s.strata })
  -- and they are the strata in plain numbers
  pub layers : Strata s.places precedes s.stratum s.strata
  -- the timetable in seconds, the weights being the book's seconds of each place's step
  pub seconds : Timetable second_scale s.places precedes (λ v. record { count = m.seconds (s.step v) }) (λ v. record { count = s.begin v }) (record { count = s.seconds })
