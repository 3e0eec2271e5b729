-- Bytes written into a lent buffer at a place.
use Rattle.std.specs.Prelude.{◌≡◌, ℕ, ◌+◌, List, ◌++◌, length, take, drop}

-- a buffer with the bytes ys from a place on, all else as it was
abbrev pub written : List ℕ → ℕ → List ℕ → List ℕ
written xs at ys = take at xs ++ (ys ++ drop (at + length ys) xs)

-- the bytes ys are written at a place, and next is the place behind them
pub record Wrote (before : List ℕ) (at : ℕ) (ys after : List ℕ) (next : ℕ) : Type 0 where
  pub bytes : after ≡ written before at ys
  pub place : next ≡ at + length ys
