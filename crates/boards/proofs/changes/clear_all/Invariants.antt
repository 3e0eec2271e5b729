use Rattle.std.proofs.Common.{◌≡◌, ℕ, ◌<◌, false}
use Rattle.boards.proofs.changes.clear_all.Given as goal

abbrev pub invariant-loop-p : goal.invariant-loop-p
invariant-loop-p g l =
    let d = g.D.Board in
    (d.limit l.board ≡ d.limit l.initial.board) × ((q : ℕ) → q < l.p → d.set l.board q ≡ false)
