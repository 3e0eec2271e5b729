use Rattle.plans.proofs.Picks.{turning}
use Rattle.plans.proofs.picked_orders_are_in_turn.Goals as goal

pub returns : goal.returns
returns c = turning
