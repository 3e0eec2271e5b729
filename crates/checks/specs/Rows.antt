-- The table of precedence, a row of places for each place.
use Rattle.std.specs.Prelude.{ℕ, Bool, List, [], map, slice_index_or}
use Rattle.facts.specs.declared.NumberSet.{NumberSet}
use Rattle.facts.specs.Sets.{holds}

-- whether place u precedes place v by the table: u is in the row of v
abbrev pub marked : List (NumberSet 4) → ℕ → ℕ → Bool
marked rows u v = holds (slice_index_or (map (λ row. row.words) rows) v []) u
