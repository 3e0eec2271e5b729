use Rattle.plans.proofs.Runs.{progress}
use Rattle.plans.proofs.some_undone_place_is_ready.Goals as goal

pub returns : goal.returns
returns c = progress
