use Rattle.std.proofs.Common.{take, drop}
use Rattle.runs.proofs.Turns.{SoFar}
use Rattle.runs.proofs.carrying.carry_requests.Given as goal

abbrev pub invariant-loop-i : goal.invariant-loop-i
invariant-loop-i g l =
    SoFar (g.B.Book.model l.book) (g.D.Board.limit l.initial.board) (g.D.Board.limit l.board) l.initial.card (g.D.Board.set l.initial.board) l.card (g.D.Board.set l.board)
    (take l.i l.requests) (take l.i l.replies) (drop l.i l.initial.replies) (drop l.i l.replies)
