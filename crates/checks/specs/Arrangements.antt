-- What an arrangement holds of an accepted plan.
use Rattle.std.specs.Prelude.{◌≡◌, ℕ, ◌<◌, slice_index_or}
use Rattle.books.specs.Book.{Model}
use Rattle.plans.specs.Places.{Arranged}
use Rattle.task_sheets.specs.Content.{Task}
use Rattle.checks.specs.declared.arrangement.Arrangement.{Arrangement}
use Rattle.checks.specs.Rows.{marked}
use Rattle.checks.specs.Tables.{blank, places_in, Exact}

-- the picked orders of the plan's levels, one after the other, with the levels' numbers from 1, and exactly which place precedes which
pub record Arranges (m : Model) (t : Task) (a : Arrangement) : Type 0 where
  pub arranged : Arranged m t.levels (places_in a.count a.places)
  pub numbered : (u : ℕ) → u < a.count → 0 < (slice_index_or a.places u blank).level
  pub exact : Exact m (places_in a.count a.places) (marked a.before)

-- as many places, each with the same step and level, and the same precedence
pub record SameArrangement (a b : Arrangement) : Type 0 where
  pub count : b.count ≡ a.count
  pub places : (u : ℕ) → u < a.count → slice_index_or b.places u blank ≡ slice_index_or a.places u blank
  pub before : (u v : ℕ) → u < a.count → v < a.count → marked b.before u v ≡ marked a.before u v

-- no plan has two arrangements
abbrev pub OneArrangement : Type 0
OneArrangement = (m : Model) (t : Task) (a b : Arrangement) → Arranges m t a → Arranges m t b → SameArrangement a b
