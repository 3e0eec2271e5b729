-- Laws of the words on sets of facts.
use Rattle.std.specs.Prelude.{◌≡◌, ℕ, ◌≤◌, true, ◌&&◌, List, length, nat_lt}
use Rattle.books.specs.Book.{Facts, count}
use Rattle.books.specs.Listed.{listed, members}

-- the members of a set below n are as many as are counted, and are the numbers of the set below n; a set has at most as many
-- numbers as a list that has them all
pub record SetLaws : Type 0 where
  pub counted : (P : Facts) (n : ℕ) → length (members P n) ≡ count P n
  pub told : (P : Facts) (n p : ℕ) → listed (members P n) p ≡ (P p && nat_lt p n)
  pub few : (P : Facts) (ps : List ℕ) → ((p : ℕ) → P p ≡ true → listed ps p ≡ true) → (n : ℕ) → count P n ≤ length ps
