use Rattle.plans.proofs.Recasting.{one_recast}
use Rattle.plans.proofs.plans_have_one_list_of_strata.Goals as goal

pub returns : goal.returns
returns c = one_recast
