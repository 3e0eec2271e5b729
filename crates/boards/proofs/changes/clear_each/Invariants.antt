use Rattle.std.proofs.Common.{◌≡◌, ℕ, ◌<◌, ◌≤◌, not, ◌&&◌}
use Rattle.facts.specs.Sets.{holds}
use Rattle.boards.proofs.changes.clear_each.Given as goal

abbrev pub invariant-loop-p : goal.invariant-loop-p
invariant-loop-p g l =
    let d = g.D.Board in
    let old = d.set l.initial.board in
    (l.p-iterator.set.now.words ≡ l.facts.words)
    × (d.limit l.board ≡ d.limit l.initial.board)
    × ((q : ℕ) → q < l.p-iterator.from → d.set l.board q ≡ (old q && not (holds l.facts.words q)))
    × ((q : ℕ) → l.p-iterator.from ≤ q → d.set l.board q ≡ old q)
