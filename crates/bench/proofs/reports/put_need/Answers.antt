use Rattle.sheets.proofs.Writers.{writes_on}
use Rattle.bench.proofs.reports.put_need.Goals as goal

pub returns : goal.returns
returns c = writes_on c.put_number.ensures (writes_on c.put_number-2.ensures c.put_number-3.ensures)
