use Rattle.std.proofs.Common.{Ok, rules}
use Rattle.task_sheets.proofs.Laws.{said_by, one_sheet_each}
use Rattle.task_sheets.proofs.task_sheet.TaskSheet.open.Goals as goal

pub returns-in_err-map_err-clause-law : goal.returns-in_err-map_err-clause-law
returns-in_err-map_err-clause-law c = said_by c.args.bytes.now (λ i. (c.type_inv.bytes i).fits) c.from_residual.result (search rules)

pub returns-in_err-map_err-clause-one : goal.returns-in_err-map_err-clause-one
returns-in_err-map_err-clause-one c = one_sheet_each

pub returns-clause-law : goal.returns-clause-law
returns-clause-law c = said_by c.args.bytes.now (λ i. (c.type_inv.bytes i).fits) (Ok tt) (search rules)

pub returns-clause-one : goal.returns-clause-one
returns-clause-one c = one_sheet_each
