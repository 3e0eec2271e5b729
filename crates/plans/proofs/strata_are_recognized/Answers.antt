use Rattle.plans.proofs.Strata.{restaging}
use Rattle.plans.proofs.strata_are_recognized.Goals as goal

pub returns : goal.returns
returns c = restaging
