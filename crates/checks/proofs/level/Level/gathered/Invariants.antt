use Rattle.std.proofs.Common.{◌≡◌, ℕ, ◌-◌, ◌<◌, ◌≤◌, length, get_or, take}
use Rattle.facts.specs.Sets.{holds}
use Rattle.plans.specs.Steps.{Met}
use Rattle.task_sheets.specs.Parts.{numbers_of}
use Rattle.checks.specs.Drafts.{steps_of, levels_of, Told}
use Rattle.checks.proofs.level.Level.gathered.Given as goal

abbrev pub invariant-loop-step : goal.invariant-loop-step
invariant-loop-step g l =
    let m = g.B.Book.model l.book in
    let xs = numbers_of l.steps in
    let n = length l.placed.items in
    (n ≤ length xs)
    × (steps_of l.placed.items ≡ take n xs)
    × ((i : ℕ) → i < n → get_or (levels_of l.placed.items) i 0 ≡ l.number)
    × Told m l.placed.items
    × ((k : ℕ) → k < n → Met m (holds l.facts.words) (get_or xs k 0))

abbrev pub decreases-loop-step : goal.decreases-loop-step
decreases-loop-step g l = length (numbers_of l.steps) - length l.placed.items
