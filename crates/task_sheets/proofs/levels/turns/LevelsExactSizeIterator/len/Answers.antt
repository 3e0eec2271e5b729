use Rattle.std.proofs.Common.{sym}
use Rattle.task_sheets.proofs.Sound.{length_levels_from}
use Rattle.task_sheets.proofs.levels.turns.LevelsExactSizeIterator.len.Goals as goal

pub returns-clause-value : goal.returns-clause-value
returns-clause-value c = sym (length_levels_from c.args.self.now.bytes.now c.args.self.now.at c.args.self.now.left)
