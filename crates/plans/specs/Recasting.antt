-- Recasting: the strata of a plan as levels of a plan again.
use Rattle.std.specs.Prelude.{◌≡◌, ℕ, ◌+◌, ◌<◌, ◌⊎◌, ◌↔◌, List, length}
use Rattle.std.specs.List.{AllByRecursion}
use Rattle.books.specs.Book.{Model, Lawful, Facts}
use Rattle.plans.specs.Plans.{Ascending, Authorized, Accepted, finally}
use Rattle.plans.specs.Places.{Places, Arranged, Precedes, Lays}
use Rattle.plans.specs.Laws.{Climbs, Calm}

-- a stratum is 0, or one more than that of some preceding place
abbrev pub Low : Model → Places → (ℕ → ℕ) → Type 0
Low m o stratum =
    (v : ℕ) → v < o.size → (stratum v ≡ 0) ⊎ ((u : ℕ) × (u < o.size) × Precedes m o u v × (stratum v ≡ stratum u + 1))

-- the levels are the strata of the plan: a stratum is above those of all preceding places and no higher than it must be,
-- and each level has the steps of one stratum in ascending order, and at least one
pub record StrataOf (m : Model) (plan strata : List (List ℕ)) : Type 0 where
  pub places : Places
  pub stratum : ℕ → ℕ
  pub arranged : Arranged m plan places
  pub climbs : Climbs m places stratum
  pub low : Low m places stratum
  pub lays : Lays places stratum strata
  pub ascending : AllByRecursion Ascending strata
  pub some : AllByRecursion (λ xs. 0 < length xs) strata

-- a plan has strata exactly where its levels are authorized
abbrev pub Stratifying : Type 0
Stratifying = (m : Model) → Lawful m → (plan : List (List ℕ)) → AllByRecursion (Authorized m) plan ↔ ((strata : List (List ℕ)) × StrataOf m plan strata)

-- a plan has one list of strata
abbrev pub OneRecast : Type 0
OneRecast = (m : Model) (plan xs ys : List (List ℕ)) → StrataOf m plan xs → StrataOf m plan ys → xs ≡ ys

-- what holds of the strata of an accepted plan
pub record Recast (m : Model) (start goal : Facts) (plan strata : List (List ℕ)) : Type 0 where
  -- they are accepted too, with the same final facts
  pub accepted : Accepted m start goal strata
  pub same : (p : ℕ) → finally m start strata p ≡ finally m start plan p
  -- no two different steps of one level disturb each other
  pub calm : AllByRecursion (Calm m) strata
  -- and they are their own strata
  pub again : StrataOf m strata strata

abbrev pub Recasting : Type 0
Recasting =
    (m : Model) → Lawful m → (start goal : Facts) (plan strata : List (List ℕ)) → Accepted m start goal plan → StrataOf m plan strata
    → Recast m start goal plan strata
