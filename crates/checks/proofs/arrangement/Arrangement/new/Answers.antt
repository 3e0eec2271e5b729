use Rattle.std.proofs.lemmas.Bool.{both_ways}
use Rattle.checks.proofs.Marks.{marked_none}
use Rattle.checks.proofs.arrangement.Arrangement.new.Goals as goal

pub invariant_of-result-clause-upward : goal.invariant_of-result-clause-upward
invariant_of-result-clause-upward c u v e = absurd (both_ways _ (marked_none 256 c.empty.result c.empty.ensures u v) e)
