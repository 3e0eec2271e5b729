use Rattle.facts.proofs.Words.{zero_word}
use Rattle.boards.proofs.tally_board.TallyBoard.new.Goals as goal

pub returns : goal.returns
returns c q = zero_word 512 q
