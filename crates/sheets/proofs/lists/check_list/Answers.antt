use Rattle.std.proofs.Common.{is_ok, ap, arith}
use Rattle.sheets.specs.Lists.{entry}
use Rattle.sheets.proofs.Entries.{entries_rise, numbers_ascend}
use Rattle.sheets.proofs.Verdicts.{up_to_each}
use Rattle.sheets.proofs.lists.check_list.Goals as goal

-- the entries have been found right
pub new-requires-clause-ascend : goal.new-requires-clause-ascend
new-requires-clause-ascend c =
    numbers_ascend c.args.bytes.now c.args.at c.args.n (entries_rise c.args.bytes.now c.args.bound c.args.at c.args.n
    (λ j l. up_to_each (entry c.args.bytes.now c.args.bound c.args.at) c.loop-j.j j (omega arith) (ap is_ok c.loop-j.invariant.0)))
