use Rattle.facts.proofs.Words.{holds_zero}
use Rattle.facts.proofs.NumberSet.empty.Goals as goal

pub returns : goal.returns
returns g c q = holds_zero g.row.W q
