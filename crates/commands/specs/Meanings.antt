-- Which refusals are explained.
use Rattle.std.specs.Prelude.{◌≡◌, ℕ, ◌<◌, ◌≤◌, ◌⊎◌, List, Option, MatchOption}
use Rattle.std.specs.Borrow.{Bor}

-- exactly those from 1 to 20
abbrev pub Explained : ℕ → Option (Bor (List ℕ)) → Type 0
Explained n r = MatchOption r ((n ≡ 0) ⊎ (20 < n)) (λ _. (1 ≤ n) × (n ≤ 20))
