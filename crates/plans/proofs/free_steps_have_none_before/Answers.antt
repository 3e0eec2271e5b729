use Rattle.plans.proofs.Picks.{freedom}
use Rattle.plans.proofs.free_steps_have_none_before.Goals as goal

pub returns : goal.returns
returns c = freedom
