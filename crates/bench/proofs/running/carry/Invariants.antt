use Rattle.bench.proofs.Telling.{SoFar}
use Rattle.bench.proofs.running.carry.Given as goal

abbrev pub invariant-loop-request : goal.invariant-loop-request
invariant-loop-request g l =
    SoFar (g.B.Book.model l.book) (g.D.Board.limit l.initial.board) (g.D.Board.limit l.board) l.initial.card (g.D.Board.set l.initial.board) l.card (g.D.Board.set l.board)
    l.script l.request-index l.initial.writer l.writer
