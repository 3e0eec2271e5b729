use Rattle.book_sheets.proofs.Questions.{Found, no_lists, lists_found, lists_told}
use Rattle.book_sheets.proofs.book_sheet.BookSheet.lists.Goals.{After-get-at}
use Rattle.book_sheets.proofs.book_sheet.BookSheet.lists.Goals as goal

pub returns-in_err-row : goal.returns-in_err-row
returns-in_err-row c = rw c.from_residual.ensures (no_lists c.args.self.now.bytes.now c.args.a c.in_err-row.ensures.past)

-- the lists stand in the sheet and ascend
found : (c : After-get-at) → Found c.args.self.now.bytes.now c.get-at.result c.of_row-counts.result.needs c.of_row-counts.result.adds c.of_row-counts.result.deletes
found c =
    let n = c.of_row-counts.ensures in
    lists_found c.args.self.now.bytes.now c.args.self.now.ok c.args.a c.in_ok-row.row c.get-at.result _ _ _ c.in_ok-row.ensures c.get-at.ensures n.needs n.adds n.deletes

pub new-requires : goal.new-requires
new-requires c = let lists = found (goal.at.new-requires c).After-get-at in record { n_in_bounds = lists.needs_end; ascend = lists.needs }

pub new-requires-2 : goal.new-requires-2
new-requires-2 c = let lists = found (goal.at.new-requires-2 c).After-get-at in record { n_in_bounds = lists.adds_end; ascend = lists.adds }

pub new-requires-3 : goal.new-requires-3
new-requires-3 c = let lists = found (goal.at.new-requires-3 c).After-get-at in record { n_in_bounds = lists.deletes_end; ascend = lists.deletes }

pub returns : goal.returns
returns c =
    let s = c.args.self.now in
    let n = c.of_row-counts.ensures in
    lists_told s.bytes.now s.ok c.args.a c.in_ok-row.row c.get-at.result _ _ _ c.in_ok-row.ensures c.get-at.ensures n.needs n.adds n.deletes _ c.new.ensures c.new-2.ensures c.new-3.ensures
