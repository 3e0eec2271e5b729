use Rattle.std.proofs.Common.{map, ℕ, ◌-◌, ◌<◌, ◌≤◌, length, get_or}
use Rattle.sheets.specs.Numbers.{number_in}
use Rattle.sheets.proofs.sorted_numbers.is_among.Given as goal

abbrev pub invariant-loop-low : goal.invariant-loop-low
invariant-loop-low l =
    (l.high ≤ length l.pairs) × (l.low ≤ l.high)
    × ((i : ℕ) → i < l.low → get_or (map number_in l.pairs) i 0 < l.p)
    × ((i : ℕ) → l.high ≤ i → i < length l.pairs → l.p < get_or (map number_in l.pairs) i 0)

abbrev pub decreases-loop-low : goal.decreases-loop-low
decreases-loop-low l = l.high - l.low
