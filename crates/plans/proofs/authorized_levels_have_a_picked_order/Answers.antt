use Rattle.plans.proofs.Picks.{reaching}
use Rattle.plans.proofs.authorized_levels_have_a_picked_order.Goals as goal

pub returns : goal.returns
returns c = reaching
