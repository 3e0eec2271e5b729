-- Which numbers a row of words of 64 bits holds.
use Rattle.std.specs.Prelude.{◌≡◌, ℕ, zero, suc, ◌+◌, ◌/◌, ◌%◌, ◌^◌, ◌<◌, ◌≤◌, Bool, true, false, cond, ◌&&◌, List, Option, MatchOption, ◌==◌, slice_index}
use Rattle.std.specs.Bool.{beq}

-- bit k of n
unfoldable pub bit : ℕ → ℕ → Bool
bit n k = n / 2 ^ k % 2 == 1

-- whether number p is in the set: it is bit p % 64 of word p / 64
unfoldable pub holds : List ℕ → ℕ → Bool
holds words p = bit (slice_index words (p / 64)) (p % 64)

-- p is the first number of the set
pub record First (within : ℕ → Bool) (p : ℕ) : Type 0 where
  pub here : within p ≡ true
  pub before : (q : ℕ) → q < p → within q ≡ false

-- n is the first number of the set from p on
pub record Next (within : ℕ → Bool) (p n : ℕ) : Type 0 where
  pub from : p ≤ n
  pub here : within n ≡ true
  pub before : (q : ℕ) → p ≤ q → q < n → within q ≡ false

-- a step over the numbers of a set, all of them below a bound: the next number from a place on comes, and the place moves past it; or there is none
abbrev pub GivesNext : {S : Type 0} → (S → List ℕ) → (S → ℕ) → ℕ → S → Option ℕ → S → Type 0
GivesNext words from bound s r t = (words t ≡ words s)
    × MatchOption r ((q : ℕ) → from s ≤ q → holds (words s) q ≡ false) (λ n. (n < bound) × Next (holds (words s)) (from s) n × (from t ≡ n + 1))

-- whether two sets have the same numbers below n
unfoldable pub same_below : ℕ → (ℕ → Bool) → (ℕ → Bool) → Bool
same_below zero f g = true
same_below (suc n) f g = beq (f n) (g n) && same_below n f g

-- how many numbers below n are in the set
unfoldable pub count : (ℕ → Bool) → ℕ → ℕ
count P zero = 0
count P (suc n) = cond (P n) 1 0 + count P n
