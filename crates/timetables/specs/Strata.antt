-- The strata of places, in plain numbers.
use Rattle.std.specs.Prelude.{◌≡◌, ℕ, ◌+◌, ◌<◌, ◌≤◌, Bool, true, ◌⊎◌, List, length, replicate, Ok, Err, Result}
use Rattle.sheets.specs.declared.writing.TooShort.{TooShort}
use Rattle.timetables.specs.Measures.{StepCount, step_scale}
use Rattle.timetables.specs.Timetable.{by_place, Written}

-- the stratum of each place, and the number of strata
pub record Strata (size : ℕ) (precedes : ℕ → ℕ → Bool) (stratum : ℕ → ℕ) (count : ℕ) : Type 0 where
  -- a preceding place has a smaller stratum
  pub climbs : (u v : ℕ) → precedes u v ≡ true → stratum u < stratum v
  -- a stratum is 0 or one more than that of some preceding place
  pub low : (v : ℕ) → v < size → (stratum v ≡ 0) ⊎ ((u : ℕ) × (u < size) × (precedes u v ≡ true) × (stratum v ≡ stratum u + 1))
  -- the strata are the numbers below their number, which is at most the number of places
  pub below : (v : ℕ) → v < size → stratum v < count
  pub each : (k : ℕ) → k < count → (v : ℕ) × (v < size) × (stratum v ≡ k)
  pub few : count ≤ size

-- the stratum of each place by a list of begins
abbrev pub stratum_in : List StepCount → ℕ → ℕ
stratum_in begins v = (by_place step_scale begins v).count

-- weight 1 for every place
abbrev pub ones : List StepCount
ones = replicate 256 (record { count = 1 })

-- the answer to a call for the strata, from the begins before and after it: the timetable with weight 1 for every place,
-- or the needed length where the list is too short
abbrev pub Stratified : ℕ → (ℕ → ℕ → Bool) → List StepCount → List StepCount → Result StepCount TooShort → Type 0
Stratified size precedes before after (Ok end) = Written step_scale size precedes ones before after end × Strata size precedes (stratum_in after) end.count
Stratified size precedes before after (Err fault) = (fault.needed ≡ size) × (length before < size) × (after ≡ before)
