use Rattle.std.proofs.Common.{◌∙◌}
use Rattle.task_sheets.specs.Parts.{numbers_of}
use Rattle.checks.proofs.TaskLists.{part_said}
use Rattle.checks.proofs.reading.part_set.Goals as goal

pub returns-in-Some : goal.returns-in-Some
returns-in-Some c q =
    c.set_of.ensures q
    ∙ part_said c.args.task.now c.args.which (numbers_of c.numbers.result) q (c.numbers.ensures ∙ c.in-Some.ensures.says)
