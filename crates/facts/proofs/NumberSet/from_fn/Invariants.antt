use Rattle.std.proofs.Common.{◌≡◌, ℕ, ◌*◌, ◌<◌, ◌≤◌, false}
use Rattle.facts.specs.Sets.{holds}
use Rattle.facts.proofs.NumberSet.from_fn.Given as goal

abbrev pub invariant-loop-p : goal.invariant-loop-p
invariant-loop-p g l =
    ((q : ℕ) → q < l.p → q < 64 * g.row.W → goal.F-post g l.f q (holds l.set.words q)) × ((q : ℕ) → l.p ≤ q → holds l.set.words q ≡ false)
