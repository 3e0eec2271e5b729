-- What a measure means: a zero, an at-most order and an addition, and what makes them lawful.
use Rattle.std.specs.Prelude.{◌≡◌, Bool, true, ◌⊎◌}

pub record Scale (M : Type 0) : Type 0 where
  pub zero : M
  -- whether a value is at most another
  pub within : M → M → Bool
  -- a value and a weight added
  pub plus : M → M → M

-- the laws of a measure
pub record Laws {M : Type 0} (s : Scale M) : Type 0 where
  pub transitive : (x y z : M) → s.within x y ≡ true → s.within y z ≡ true → s.within x z ≡ true
  pub antisymmetric : (x y : M) → s.within x y ≡ true → s.within y x ≡ true → x ≡ y
  pub total : (x y : M) → (s.within x y ≡ true) ⊎ (s.within y x ≡ true)
  pub least : (x : M) → s.within s.zero x ≡ true
  -- adding the same weight to two values keeps their order
  pub keeps : (x y weight : M) → s.within x y ≡ true → s.within (s.plus x weight) (s.plus y weight) ≡ true
