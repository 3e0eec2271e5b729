-- Steps: which authorizes which, which disturb each other, and what a level of steps leaves.
use Rattle.std.specs.Prelude.{◌≡◌, ℕ, Bool, true, false, not, ◌&&◌, ◌||◌, ◌⊎◌, List, [], ◌∷◌, ◌≢◌}
use Rattle.books.specs.Book.{Model, Facts}

-- one of the steps is such
abbrev pub some : (ℕ → Bool) → List ℕ → Bool
some f [] = false
some f (a ∷ xs) = f a || some f xs

module _ (m : Model) where
  -- u authorizes v: they differ, u adds nothing that v deletes, and u deletes nothing that v needs
  pub record Authorizes (u v : ℕ) : Type 0 where
    pub other : u ≡ v → ⊥
    pub adding : (p : ℕ) → m.adds u p ≡ true → m.deletes v p ≢ true
    pub deleting : (p : ℕ) → m.deletes u p ≡ true → m.needs v p ≢ true

  -- u deletes a fact that v needs or adds
  abbrev pub Spoils : ℕ → ℕ → Type 0
  Spoils u v = (p : ℕ) × (m.deletes u p ≡ true) × ((m.needs v p ≡ true) ⊎ (m.adds v p ≡ true))

  -- u and v disturb each other: they are the same, or either deletes a fact that the other needs or adds
  abbrev pub Disturb : ℕ → ℕ → Type 0
  Disturb u v = (u ≡ v) ⊎ (Spoils u v ⊎ Spoils v u)

  -- u adds a fact that v needs
  abbrev pub Feeds : ℕ → ℕ → Type 0
  Feeds u v = (p : ℕ) × (m.adds u p ≡ true) × (m.needs v p ≡ true)

  -- every fact that a needs is held
  abbrev pub Met : Facts → ℕ → Type 0
  Met E a = (p : ℕ) → m.needs a p ≡ true → E p ≡ true

  -- the facts after a level: all that its steps delete is removed, then all that they add is put
  abbrev pub passed : Facts → List ℕ → Facts
  passed E xs p = (E p && not (some (λ a. m.deletes a p) xs)) || some (λ a. m.adds a p) xs
