use Rattle.plans.proofs.Picks.{refusing}
use Rattle.plans.proofs.stuck_levels_are_not_authorized.Goals as goal

pub returns : goal.returns
returns c = refusing
