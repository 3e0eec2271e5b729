use Rattle.task_sheets.specs.Opened.{task_of}
use Rattle.checks.proofs.checking.arrange.Goals as goal

pub returns-clause-arrangement : goal.returns-clause-arrangement
returns-clause-arrangement g c =
    c.of.ensures (g.B.Book.model c.args.book.now) (task_of c.args.task.now) (rw c.as_slice.ensures.value c.in_ok-words.ensures.drafted)
