-- Plans: authorized levels, recognition of a plan from its start facts, and acceptance.
use Rattle.std.specs.Prelude.{◌≡◌, ℕ, ◌<◌, true, List, [], ◌∷◌, ◌≢◌}
use Rattle.std.specs.List.{AllByRecursion}
use Rattle.std.specs.List.Sorted.{IsPermutation}
use Rattle.books.specs.Book.{Model, Facts, after}
use Rattle.plans.specs.Steps.{Authorizes, Met, passed}

-- every earlier number is so related to every later one
abbrev pub Pairwise : (ℕ → ℕ → Type 0) → List ℕ → Type 0
Pairwise R [] = Unit {0}
Pairwise R (a ∷ xs) = AllByRecursion (R a) xs × Pairwise R xs

-- no step stands twice
abbrev pub Distinct : List ℕ → Type 0
Distinct = Pairwise (λ a b. a ≢ b)

-- every earlier step is smaller than every later one
abbrev pub Ascending : List ℕ → Type 0
Ascending = Pairwise (λ a b. a < b)

module _ (m : Model) where
  -- every earlier step authorizes every later one
  abbrev pub InTurn : List ℕ → Type 0
  InTurn = Pairwise (Authorizes m)

  -- bs is an order of the steps xs in which every earlier one authorizes every later one
  pub record AuthorizedOrder (xs bs : List ℕ) : Type 0 where
    pub shuffled : IsPermutation xs bs
    pub turn : InTurn bs

  -- the steps have such an order
  abbrev pub Authorized : List ℕ → Type 0
  Authorized xs = (bs : List ℕ) × AuthorizedOrder xs bs

  -- the level xs passes from the facts E: every fact that its steps need is held, and it is authorized
  pub record Passes (E : Facts) (xs : List ℕ) : Type 0 where
    pub met : AllByRecursion (Met m E) xs
    pub authorized : Authorized xs

  -- from the facts E on, every level passes
  abbrev pub Recognized : Facts → List (List ℕ) → Type 0
  Recognized E [] = Unit {0}
  Recognized E (xs ∷ rest) = Passes E xs × Recognized (passed m E xs) rest

  -- the facts after the steps are done singly, in this order
  abbrev pub singly : Facts → List ℕ → Facts
  singly E [] = E
  singly E (a ∷ xs) = singly (after m E a) xs

  -- the facts after all levels
  abbrev pub finally : Facts → List (List ℕ) → Facts
  finally E [] = E
  finally E (xs ∷ rest) = finally (passed m E xs) rest

  -- every level passes, and the final facts include the goal's
  pub record Accepted (start goal : Facts) (plan : List (List ℕ)) : Type 0 where
    pub recognized : Recognized start plan
    pub reached : (p : ℕ) → goal p ≡ true → finally start plan p ≡ true
