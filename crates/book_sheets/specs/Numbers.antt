-- The numbers of a set of words.
use Rattle.std.specs.Prelude.{ℕ, ◌*◌, List}
use Rattle.books.specs.Listed.{members}
use Rattle.facts.specs.Sets.{holds}

-- the numbers that w words hold, in ascending order
unfoldable pub numbers_in : List ℕ → ℕ → List ℕ
numbers_in words w = members (holds words) (64 * w)
