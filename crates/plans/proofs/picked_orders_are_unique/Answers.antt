use Rattle.plans.proofs.Picks.{uniqueness}
use Rattle.plans.proofs.picked_orders_are_unique.Goals as goal

pub returns : goal.returns
returns c = uniqueness
