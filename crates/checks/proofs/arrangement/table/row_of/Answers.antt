use Rattle.std.proofs.Common.{rules, arith}
use Rattle.checks.proofs.arrangement.table.row_of.Goals as goal

pub returns-clause-exact : goal.returns-clause-exact
returns-clause-exact c m f o u l = let e = c.from_fn.ensures.below u l (omega arith) in search rules
