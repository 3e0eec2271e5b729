-- The lines of a listing, as bytes.
use Rattle.std.specs.Prelude.{ℕ, List, [], ◌∷◌, ◌++◌, codes, decimal}

-- words, and the number behind them
abbrev pub entry : List ℕ → ℕ → List ℕ
entry words n = words ++ decimal n

-- the byte that ends a line
abbrev pub newline : List ℕ
newline = 10 ∷ []

unfoldable pub head_line : ℕ → ℕ → ℕ → ℕ → List ℕ
head_line places levels strata seconds =
    entry (codes "places ") places ++ (entry (codes " levels ") levels ++ (entry (codes " strata ") strata ++ (entry (codes " seconds ") seconds ++ newline)))

unfoldable pub place_line : ℕ → ℕ → ℕ → ℕ → ℕ → List ℕ
place_line place step level stratum begin =
    entry [] place ++ (entry (codes " step ") step ++ (entry (codes " level ") level ++ (entry (codes " stratum ") stratum ++ (entry (codes " at ") begin ++ newline))))

unfoldable pub refused_line : ℕ → List ℕ
refused_line number = entry (codes "refused ") number ++ newline
