-- Places and the table of precedence, as a program holds them.
use Rattle.std.specs.Prelude.{◌≡◌, ℕ, ◌-◌, ◌<◌, Bool, true, List, slice_index_or}
use Rattle.books.specs.Book.{Model}
use Rattle.plans.specs.Places.{Places, Precedes}
use Rattle.checks.specs.declared.arrangement.Place.{Place}

-- no place: what stands past the last one
abbrev pub blank : Place
blank = record { step = 0; level = 0 }

-- the places that a table of places holds; a level is shown by its number from 1
abbrev pub places_in : ℕ → List Place → Places
places_in count places = record {
  size = count;
  step = λ u. (slice_index_or places u blank).step;
  level = λ u. (slice_index_or places u blank).level - 1;
}

-- the table is the relation, for all places
abbrev pub Exact : Model → Places → (ℕ → ℕ → Bool) → Type 0
Exact m o before =
    (u v : ℕ) → u < o.size → v < o.size → (before u v ≡ true → Precedes m o u v) × (Precedes m o u v → before u v ≡ true)
