use Rattle.std.proofs.Common.{◌≡◌, ◌+◌, ◌*◌, sym, ◌∙◌, rules}
use Rattle.sheets.specs.Numbers.{numbers_of}
use Rattle.sheets.specs.Verdicts.{fine, up_to}
use Rattle.book_sheets.specs.Layout.{deleted}
use Rattle.book_sheets.proofs.Ascents.{deletes_same}
use Rattle.book_sheets.proofs.checks.check_lists.Goals as goal

-- the deletes are sought among the adds that have just been found right
pub returns-in_err-check_deletes : goal.returns-in_err-check_deletes
returns-in_err-check_deletes c =
    let n = c.args.counts in
    let adds = c.args.at + 2 * n.needs in
    let same = deletes_same c.args.bytes.now c.args.facts adds n.adds (adds + 2 * n.adds) (numbers_of c.in_ok-adds.adds.numbers) c.in_ok-adds.ensures.1.1 n.deletes in
    let refused = sym same ∙ c.in_err-check_deletes.ensures in
    search rules

pub returns : goal.returns
returns c =
    let n = c.args.counts in
    let adds = c.args.at + 2 * n.needs in
    let same = deletes_same c.args.bytes.now c.args.facts adds n.adds (adds + 2 * n.adds) (numbers_of c.in_ok-adds.adds.numbers) c.in_ok-adds.ensures.1.1 n.deletes in
    let passed : up_to (deleted c.args.bytes.now c.args.facts adds n.adds (adds + 2 * n.adds)) n.deletes ≡ fine = sym same ∙ c.in_ok-check_deletes.ensures.0 in
    search rules
