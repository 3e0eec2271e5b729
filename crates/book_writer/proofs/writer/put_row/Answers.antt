use Rattle.sheets.proofs.Writers.{writes_on}
use Rattle.book_writer.proofs.writer.put_row.Goals as goal

pub returns : goal.returns
returns c = writes_on (writes_on c.put.ensures c.put-2.ensures) c.put_bytes.ensures
