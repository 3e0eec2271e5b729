-- What a refusal tells, and the list of all refusals.
use Rattle.std.specs.Prelude.{ℕ, ◌-◌, ◌<◌, ◌≤◌, ◌≡◌, List, [], ◌∷◌, length, get_or}

-- the number of a refusal, and the values that it names
pub record Notice : Type 0 where
  pub number : ℕ
  pub values : List ℕ

-- how many values each refusal names, from number 1 on: 1 to 9 a byte place; 11 level, step and fact; 12 the level; 13 the fact;
-- 18 the place; 19 the length
abbrev pub named : List ℕ
named = 1 ∷ 1 ∷ 1 ∷ 1 ∷ 1 ∷ 1 ∷ 1 ∷ 1 ∷ 1 ∷ 0 ∷ 3 ∷ 1 ∷ 1 ∷ 0 ∷ 0 ∷ 0 ∷ 0 ∷ 1 ∷ 1 ∷ 0 ∷ []

-- the refusal stands on the list, and names as many values as the list says
pub record Listed (n : Notice) : Type 0 where
  pub first : 0 < n.number
  pub last : n.number ≤ length named
  pub values : length n.values ≡ get_or named (n.number - 1) 0
