-- The order inside a level: which step precedes which, and picking always the smallest step that none left precedes.
use Rattle.std.specs.Prelude.{◌≡◌, ℕ, ◌<◌, List, [], ◌∷◌, ◌≢◌}
use Rattle.std.specs.List.{ContainsAt as Has, AllByRecursion}
use Rattle.std.specs.List.Sorted.{IsPermutation}
use Rattle.books.specs.Book.{Model}
use Rattle.plans.specs.Steps.{Authorizes}

module _ (m : Model) where
  -- inside a level u precedes v: they differ and v does not authorize u
  pub record Before (u v : ℕ) : Type 0 where
    pub differ : u ≡ v → ⊥
    pub refused : Authorizes m v u → ⊥

  -- a authorizes every other step of xs, so none of them precedes it
  abbrev pub Free : List ℕ → ℕ → Type 0
  Free xs a = (b : ℕ) → Has xs b → (a ≢ b) → Authorizes m a b

  -- of the steps a and rest, a authorizes every other, and no smaller one does
  pub record Leads (a : ℕ) (rest : List ℕ) : Type 0 where
    pub ready : AllByRecursion (Authorizes m a) rest
    pub smallest : (b : ℕ) → Has rest b → b < a → Free (a ∷ rest) b → ⊥

  -- each step leads those that come after it
  abbrev pub SmallestFirst : List ℕ → Type 0
  SmallestFirst [] = Unit {0}
  SmallestFirst (a ∷ rest) = Leads a rest × SmallestFirst rest

  -- bs is the picked order of the level xs
  pub record Picked (xs bs : List ℕ) : Type 0 where
    pub shuffled : IsPermutation xs bs
    pub first : SmallestFirst bs

  -- a way from u to v through steps of xs, one or more, each before the next
  pub data Way (xs : List ℕ) : ℕ → ℕ → Type 0 where
    next : {u v : ℕ} → Has xs u → Has xs v → Before u v → Way xs u v
    onward : {u v w : ℕ} → Has xs u → Before u v → Way xs v w → Way xs u w

  -- a way from a step back to itself
  abbrev pub Cycle : List ℕ → Type 0
  Cycle xs = (u : ℕ) × Way xs u u
