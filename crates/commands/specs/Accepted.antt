-- A set of facts in words.
use Rattle.std.specs.Prelude.{ℕ, zero, suc, Bool, cond, List, [], ◌++◌, codes, decimal}

-- a fact of the set, a space before it
abbrev pub fact_word : (ℕ → Bool) → ℕ → List ℕ
fact_word set p = cond (set p) (codes " " ++ decimal p) []

-- the facts below n of the set, in ascending order
unfoldable pub listed : (ℕ → Bool) → ℕ → List ℕ
listed set zero = []
listed set (suc n) = listed set n ++ fact_word set n
