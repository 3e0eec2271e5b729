use Rattle.std.proofs.Common.{◌≡◌, ◌+◌, ◌*◌, ltb, IfSome, ap, ◌∙◌, rules}
use Rattle.book_sheets.proofs.Questions.{row_answered}
use Rattle.book_sheets.proofs.book_sheet.BookSheet.row.Goals as goal

pub returns : goal.returns
returns c =
    let a = c.args.a in
    let s = c.args.self.now in
    let place : IfSome c.then.result (λ at. at ≡ 12 + 11 * a) = search rules in
    row_answered s.bytes.now s.ok a c.then.result (c.then.ensures.variant ∙ ap (ltb a) c.get.ensures) place
