use Rattle.plans.proofs.Strata.{stillness}
use Rattle.plans.proofs.places_of_a_stratum_do_not_disturb.Goals as goal

pub returns : goal.returns
returns c = stillness
