-- Small books with a plan, its strata and a level that has a cycle: they meet what the theorems ask for.
use Rattle.std.specs.Prelude.{ℕ, Bool, false, ◌&&◌, ◌||◌, List, [], ◌∷◌, ◌==◌, nat_eq, nat_lt, slice_index}
use Rattle.std.specs.List.{AllZip, ContainsAt as Has, AllByRecursion}
use Rattle.books.specs.Book.{Model, Lawful}
use Rattle.plans.specs.Plans.{Distinct, Ascending, AuthorizedOrder, Authorized, Accepted}
use Rattle.plans.specs.Order.{Before, Free, Picked, Cycle}
use Rattle.plans.specs.Places.{Places, Arranged, Precedes, InOrder, Closed, Ready, Lays}
use Rattle.plans.specs.Laws.{Climbs, Fed}
use Rattle.plans.specs.Recasting.{StrataOf}

-- step 0 needs and deletes fact 0, step 1 needs fact 0 and adds fact 1, step 2 needs fact 1
abbrev pub tiny : Model
tiny = record {
  facts = 2;
  steps = 3;
  needs = λ a p. (nat_lt a 2 && p == 0) || (a == 2 && p == 1);
  adds = λ a p. (a == 1) && (p == 1);
  deletes = λ a p. (a == 0) && (p == 0);
  seconds = λ a. 0;
}

abbrev pub plan : List (List ℕ)
plan = (0 ∷ 1 ∷ []) ∷ (2 ∷ []) ∷ []

-- step 1 comes before step 0, which would delete what it needs
abbrev pub places : Places
places = record { size = 3; step = λ u. slice_index (1 ∷ 0 ∷ 2 ∷ []) u; level = λ u. slice_index (0 ∷ 0 ∷ 1 ∷ []) u }

abbrev pub stratum : ℕ → ℕ
stratum u = slice_index (0 ∷ 1 ∷ 1 ∷ []) u

abbrev pub strata : List (List ℕ)
strata = (1 ∷ []) ∷ (0 ∷ 2 ∷ []) ∷ []

-- only place 0 is done
abbrev pub begun : ℕ → Bool
begun u = u == 0

-- each step needs the fact of its own number and deletes the next, the last one fact 0: each spoils the next, all around
abbrev pub ring : Model
ring = record {
  facts = 3;
  steps = 3;
  needs = λ a p. nat_lt a 3 && (p == a);
  adds = λ a p. false;
  deletes = λ a p. (a == 0 && p == 1) || ((a == 1 && p == 2) || (a == 2 && p == 0));
  seconds = λ a. 0;
}

abbrev pub around : List ℕ
around = 0 ∷ 1 ∷ 2 ∷ []

-- from fact 0 the plan reaches fact 1
pub record PremisesMet : Type 0 where
  pub lawful : Lawful tiny
  pub ascending : AllByRecursion Ascending plan
  pub accepted : Accepted tiny (λ p. nat_eq p 0) (λ p. nat_eq p 1) plan
  pub arranged : Arranged tiny plan places
  pub precedes : Precedes tiny places 0 1 × Precedes tiny places 0 2
  pub climbs : Climbs tiny places stratum
  pub lays : Lays places stratum strata
  pub distinct : AllByRecursion Distinct strata

-- the other premises: those about orders, runs and strata, and a level with a cycle
pub record FurtherPremisesMet : Type 0 where
  pub picked : Picked tiny (0 ∷ 1 ∷ []) (1 ∷ 0 ∷ [])
  pub ordered : AllZip (AuthorizedOrder tiny) plan ((1 ∷ 0 ∷ []) ∷ (2 ∷ []) ∷ [])
  pub free : Free tiny (0 ∷ 1 ∷ []) 1 × Before tiny 1 0
  pub in_order : InOrder tiny places
  pub levels : Lays places places.level plan
  pub fed : Fed tiny places (λ p. nat_eq p 0)
  -- after place 0 the two others are ready, and neither precedes the other
  pub independent : (Precedes tiny places 1 2 → ⊥) × (Precedes tiny places 2 1 → ⊥)
  pub closed : Closed tiny places begun
  pub ready : Ready tiny places begun 1 × Ready tiny places begun 2
  pub strataof : StrataOf tiny plan strata
  -- a level with a cycle: no step of it is free, and it is not authorized
  pub ring_lawful : Lawful ring
  pub ring_distinct : Distinct around
  pub cycle : Cycle ring around
  pub stuck : (b : ℕ) → Has around b → Free ring around b → ⊥
  pub refused : Authorized ring around → ⊥
