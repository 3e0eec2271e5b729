-- Sets of facts by lists.
use Rattle.std.specs.Prelude.{ℕ, zero, suc, false, cond, ◌||◌, List, [], ◌∷◌, ◌++◌, ◌==◌}
use Rattle.books.specs.Book.{Facts}

-- whether a number is in the list
abbrev pub listed : List ℕ → Facts
listed [] p = false
listed (x ∷ xs) p = p == x || listed xs p

-- the numbers below n that are in the set, in ascending order
abbrev pub members : Facts → ℕ → List ℕ
members P zero = []
members P (suc n) = members P n ++ cond (P n) (n ∷ []) []
