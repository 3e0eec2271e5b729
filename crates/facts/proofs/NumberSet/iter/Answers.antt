use Rattle.std.proofs.Common.{◌*◌, refl}
use Rattle.facts.proofs.Counts.{counted_all}
use Rattle.facts.proofs.NumberSet.iter.Goals as goal

pub returns-clause-counted : goal.returns-clause-counted
returns-clause-counted g c xs all = counted_all (λ s. s.set.now.words) (λ s. s.from) (64 * g.row.W) xs _ _ refl refl all
