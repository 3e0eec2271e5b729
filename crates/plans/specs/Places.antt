-- Places: a plan's steps in order, which place precedes which, and what a part of the places leaves.
use Rattle.std.specs.Prelude.{◌≡◌, ℕ, zero, suc, ◌+◌, ◌<◌, ◌≤◌, Bool, true, cond, ◌⊎◌, List, [], ◌∷◌, length, ◌≢◌, nat_lt, slice_index, slice_index_or}
use Rattle.std.specs.List.{ContainsAt as Has}
use Rattle.books.specs.Book.{Model, Facts, after}
use Rattle.plans.specs.Steps.{Authorizes, Feeds}
use Rattle.plans.specs.Order.{Picked}

-- places 0 to size - 1, each with its step and its level. Levels count from 0 here
pub record Places : Type 0 where
  pub size : ℕ
  pub step : ℕ → ℕ
  pub level : ℕ → ℕ

-- from place n on stand the steps bs, in this order, at level i
pub record Stands (o : Places) (n i : ℕ) (bs : List ℕ) : Type 0 where
  pub step : (k : ℕ) → k < length bs → o.step (n + k) ≡ slice_index bs k
  pub level : (k : ℕ) → k < length bs → o.level (n + k) ≡ i

module _ (m : Model) where
  -- from place n on stand the picked orders of the levels, one after the other, as levels i, i + 1 and so on
  abbrev pub ArrangedFrom : Places → ℕ → ℕ → List (List ℕ) → Type 0
  ArrangedFrom o n i [] = o.size ≡ n
  ArrangedFrom o n i (xs ∷ rest) = (bs : List ℕ) × Picked m xs bs × Stands o n i bs × ArrangedFrom o (n + length bs) (suc i) rest

  -- the places are the picked orders of the plan's levels, one after the other
  abbrev pub Arranged : List (List ℕ) → Places → Type 0
  Arranged plan o = ArrangedFrom o 0 0 plan

  module _ (o : Places) where
    -- in one level, u precedes another place v where v's step does not authorize u's
    abbrev pub PrecedesBeside : ℕ → ℕ → Type 0
    PrecedesBeside u v = (o.level u ≡ o.level v) × (u ≢ v) × (Authorizes m (o.step v) (o.step u) → ⊥)

    -- from an earlier level, u precedes v where either step does not authorize the other, or u adds a fact that v needs
    abbrev pub PrecedesAcross : ℕ → ℕ → Type 0
    PrecedesAcross u v =
        (o.level u < o.level v)
        × ((Authorizes m (o.step u) (o.step v) → ⊥) ⊎ ((Authorizes m (o.step v) (o.step u) → ⊥) ⊎ Feeds m (o.step u) (o.step v)))

    -- u precedes v, beside it in one level or from an earlier one
    abbrev pub Precedes : ℕ → ℕ → Type 0
    Precedes u v = PrecedesBeside u v ⊎ PrecedesAcross u v

    -- the levels rise with the places, and a place precedes only higher places
    pub record InOrder : Type 0 where
      pub rises : (u v : ℕ) → u ≤ v → v < o.size → o.level u ≤ o.level v
      pub upward : (u v : ℕ) → u < o.size → v < o.size → Precedes u v → u < v

    -- with a place that is done, all that precede it are done
    abbrev pub Closed : (ℕ → Bool) → Type 0
    Closed done = (u v : ℕ) → u < o.size → v < o.size → Precedes u v → done v ≡ true → done u ≡ true

    -- all that precede h are done
    abbrev pub Ready : (ℕ → Bool) → ℕ → Type 0
    Ready done h = (u : ℕ) → u < o.size → Precedes u h → done u ≡ true

    -- what the places below n that are done leave of the facts E, done singly in ascending order
    abbrev pub left_below : Facts → (ℕ → Bool) → ℕ → Facts
    left_below E done zero p = E p
    left_below E done (suc n) p = cond (done n) (after m (left_below E done n) (o.step n) p) (left_below E done n p)

    -- what the places that are done leave
    abbrev pub left : Facts → (ℕ → Bool) → Facts
    left E done = left_below E done o.size

-- the places whose rank is below s
abbrev pub under : (ℕ → ℕ) → ℕ → ℕ → Bool
under rank s u = nat_lt (rank u) s

-- every place
abbrev pub all : ℕ → Bool
all u = true

-- xs has the steps of the places of rank s, and no others
pub record Row (o : Places) (rank : ℕ → ℕ) (s : ℕ) (xs : List ℕ) : Type 0 where
  pub holds : (u : ℕ) → u < o.size → rank u ≡ s → Has xs (o.step u)
  pub only : (a : ℕ) → Has xs a → (u : ℕ) × (u < o.size) × (rank u ≡ s) × (o.step u ≡ a)

-- the levels of the plan are the places by rank
pub record Lays (o : Places) (rank : ℕ → ℕ) (plan : List (List ℕ)) : Type 0 where
  pub within : (u : ℕ) → u < o.size → rank u < length plan
  pub rows : (i : ℕ) → i < length plan → Row o rank i (slice_index_or plan i [])
