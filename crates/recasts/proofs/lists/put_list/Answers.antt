use Rattle.sheets.proofs.Writers.{writes_as}
use Rattle.recasts.proofs.Copies.{list_said}
use Rattle.recasts.proofs.lists.put_list.Goals as goal

pub returns : goal.returns
returns c = writes_as (list_said c.args.list.now (λ i. (c.type_inv.list i).fits) c.requires.whole) c.put_bytes.ensures
