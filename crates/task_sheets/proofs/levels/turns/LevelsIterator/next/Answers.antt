use Rattle.std.proofs.Common.{arith}
use Rattle.task_sheets.proofs.Laws.{turn_is}
use Rattle.task_sheets.proofs.levels.turns.LevelsIterator.next.Goals as goal

pub returns-clause-steps : goal.returns-clause-steps
returns-clause-steps c =
    turn_is c.args.self.now.bytes.now c.args.self.now.at c.args.self.now.left c.get.result (omega arith) c.get.ensures c.args.self.now.room _ c.new.ensures
