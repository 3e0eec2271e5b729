use Rattle.sheets.proofs.Writers.{writes_on}
use Rattle.recasts.proofs.lists.put_header.Goals as goal

pub returns : goal.returns
returns c =
    writes_on (writes_on (writes_on (writes_on (writes_on (writes_on c.put.ensures c.put-2.ensures) c.put-3.ensures) c.put-4.ensures) c.put-5.ensures) c.put-6.ensures) c.put-7.ensures
