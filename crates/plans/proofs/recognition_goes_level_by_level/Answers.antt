use Rattle.plans.proofs.Recognizing.{recognition}
use Rattle.plans.proofs.recognition_goes_level_by_level.Goals as goal

pub returns : goal.returns
returns c = recognition
