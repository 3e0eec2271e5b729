use Rattle.sheets.proofs.Writers.{writes_on}
use Rattle.bench.proofs.Bytes.{same_number}
use Rattle.bench.proofs.records.put_reply.Goals as goal

pub returns-in-Seen : goal.returns-in-Seen
returns-in-Seen c =
    rw (c.in-Seen.is, ← c.state_code.ensures)
    (writes_on (writes_on (writes_on (writes_on c.put.ensures c.put_low.ensures) c.put_low-in-Seen.ensures) c.put-in-Seen.ensures) c.put_bytes-in-Seen.ensures)

pub returns-in-Refused : goal.returns-in-Refused
returns-in-Refused c =
    rw (c.in-Refused.is, same_number c.in-Refused.fault, ← c.number.ensures, ← c.value_of.ensures)
    (writes_on (writes_on (writes_on c.put-in-Refused.ensures c.put-in-Refused-2.ensures) c.put_number.ensures) c.put_bytes-in-Refused.ensures)
