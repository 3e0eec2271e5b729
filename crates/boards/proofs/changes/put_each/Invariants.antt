use Rattle.std.proofs.Common.{◌≡◌, ℕ, ◌<◌, ◌≤◌, ◌&&◌, ◌||◌, ltb}
use Rattle.facts.specs.Sets.{holds}
use Rattle.boards.proofs.changes.put_each.Given as goal

abbrev pub invariant-loop-p : goal.invariant-loop-p
invariant-loop-p g l =
    let d = g.D.Board in
    let old = d.set l.initial.board in
    (l.p-iterator.set.now.words ≡ l.facts.words)
    × (d.limit l.board ≡ d.limit l.initial.board)
    × ((q : ℕ) → q < l.p-iterator.from → d.set l.board q ≡ (old q || (holds l.facts.words q && ltb q (d.limit l.initial.board))))
    × ((q : ℕ) → l.p-iterator.from ≤ q → d.set l.board q ≡ old q)
