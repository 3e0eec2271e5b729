-- Lent buffers, and the first of them that is too short.
use Rattle.std.specs.Prelude.{◌≡◌, ℕ, ◌<◌, ◌≤◌, ◌⊎◌, List, [], ◌∷◌}

-- a lent buffer: the length that is needed, and the length that it has
pub record Lent : Type 0 where
  pub needed : ℕ
  pub had : ℕ

-- the first buffer that is too short needs this length
abbrev pub FirstShort : List Lent → ℕ → Type 0
FirstShort [] n = ⊥
FirstShort (x ∷ rest) n = ((x.had < x.needed) × (n ≡ x.needed)) ⊎ ((x.needed ≤ x.had) × FirstShort rest n)

-- every buffer is long enough
abbrev pub Enough : List Lent → Type 0
Enough [] = Unit {0}
Enough (x ∷ rest) = (x.needed ≤ x.had) × Enough rest
