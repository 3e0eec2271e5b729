use Rattle.sheets.proofs.Writers.{writes_on, writes_as}
use Rattle.std.proofs.Common.{◌∷◌, [], ap}
use Rattle.bench.proofs.reports.put_named.Goals as goal

pub returns-in-Sheet : goal.returns-in-Sheet
returns-in-Sheet c = rw c.in-Sheet.is (writes_on (writes_as (ap (λ b. b ∷ []) c.sheet_code.ensures) c.put.ensures) c.put_number.ensures)
