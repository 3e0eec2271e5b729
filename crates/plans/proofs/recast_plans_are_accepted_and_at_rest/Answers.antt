use Rattle.plans.proofs.Recasting.{recasting}
use Rattle.plans.proofs.recast_plans_are_accepted_and_at_rest.Goals as goal

pub returns : goal.returns
returns c = recasting
