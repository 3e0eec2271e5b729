use Rattle.cards.proofs.Requesting.{run_law}
use Rattle.cards.proofs.laws.runs_of_requests_keep_their_law.Goals as goal

pub returns : goal.returns
returns c = run_law
