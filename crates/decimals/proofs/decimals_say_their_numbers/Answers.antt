use Rattle.decimals.proofs.Saying.{decimal_says}
use Rattle.decimals.proofs.decimals_say_their_numbers.Goals as goal

pub returns : goal.returns
returns c = decimal_says
