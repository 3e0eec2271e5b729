use Rattle.plans.proofs.Picks.{picking}
use Rattle.plans.proofs.some_waiting_step_is_free.Goals as goal

pub returns : goal.returns
returns c = picking
