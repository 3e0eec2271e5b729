use Rattle.std.proofs.Common.{◌+◌, ◌*◌, ap}
use Rattle.sheets.specs.Fields.{two, four}
use Rattle.sheets.proofs.Writers.{writes_on, writes_as}
use Rattle.book_writer.proofs.writer.put_header.Goals as goal

pub returns : goal.returns
returns g c =
    let facts = writes_as (ap two c.facts.ensures) c.put.ensures in
    let steps = writes_as (ap two c.steps-steps.ensures) c.put-2.ensures in
    let lists = writes_as (ap (λ n. four (12 + 11 * n)) c.steps-steps.ensures) c.put-4.ensures in
    writes_on (writes_on (writes_on facts steps) c.put-3.ensures) lists
