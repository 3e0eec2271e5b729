use Rattle.std.proofs.Common.{sym, ap, ◌∙◌, arith}
use Rattle.facts.specs.Sets.{holds}
use Rattle.books.proofs.Members.{length_members}
use Rattle.sheets.specs.Fields.{two}
use Rattle.sheets.proofs.Writers.{writes_on, writes_as}
use Rattle.book_sheets.proofs.NumberLists.{length_numbers}
use Rattle.recasts.proofs.Rows.{members_few}
use Rattle.recasts.proofs.sets.put_set.Goals as goal

pub overflow_cast-len : goal.overflow_cast-len
overflow_cast-len c =
    let P = holds c.args.set.now.words in
    let n = c.len.ensures ∙ sym (length_members P 512) in
    omega (arith, n, members_few P 512)

pub returns : goal.returns
returns c =
    writes_on (writes_as (ap two (c.len.ensures ∙ sym (length_numbers c.args.set.now.words 8))) c.put.ensures) c.put_numbers.ensures
