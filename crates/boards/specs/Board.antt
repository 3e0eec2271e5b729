-- What a board may hold, and what the cells of a tally board mean.
use Rattle.std.specs.Prelude.{◌≡◌, ℕ, ◌+◌, ◌-◌, ◌^◌, ◌≤◌, min, false, not, List, ◌==◌, slice_index}
use Rattle.books.specs.Book.{Facts}

-- the laws of a board that holds a set of facts below its span
pub record LawfulBoard (limit : ℕ) (set : Facts) : Type 0 where
  pub small : limit ≤ 1024
  pub above : (p : ℕ) → limit ≤ p → set p ≡ false

-- the count of fact p; 0 past the cells
abbrev pub counted : List ℕ → ℕ → ℕ
counted cells p = slice_index cells p

-- a fact is held unless its count is 0
abbrev pub in_cells : List ℕ → Facts
in_cells cells p = not (counted cells p == 0)

-- a count after one more put: it stops at the largest number of 32 bits
abbrev pub raised : ℕ → ℕ
raised n = min (n + 1) (2 ^ 32 - 1)

-- the span of a tally board, whatever its cells count
abbrev pub tally_span : List ℕ → ℕ
tally_span cells = 512
