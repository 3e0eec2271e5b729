use Rattle.cards.proofs.Running.{run_law}
use Rattle.cards.proofs.laws.runs_keep_their_law.Goals as goal

pub returns : goal.returns
returns c = run_law
