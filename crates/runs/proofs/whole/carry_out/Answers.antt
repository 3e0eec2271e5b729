use Rattle.std.proofs.Common.{length, Ok, sym, refl, subst}
use Rattle.std.proofs.lemmas.Result.{err_from_is_err_and}
use Rattle.task_sheets.specs.Opened.{task_of}
use Rattle.cards.specs.Drawing.{DrawAnswered}
use Rattle.cards.specs.declared.card.Card.{Card}
use Rattle.runs.specs.declared.lengths.Lengths.{Lengths}
use Rattle.runs.proofs.Shorts.{drawn_card, short_sheet}
use Rattle.runs.proofs.Wholes.{whole}
use Rattle.runs.proofs.whole.carry_out.Goals as goal

pub returns-in_err-written : goal.returns-in_err-written
returns-in_err-written g c =
    let m = g.B.Book.model c.args.book.now in
    let t = task_of c.args.task.now in
    let span = g.D.Board.limit c.args.board.now in
    let fresh = c.in_ok-fresh.fresh in
    let d = c.in_ok-fresh.ensures.0 in
    let out = c.from_residual-in_err-written in
    let p = err_from_is_err_and out.result out.ensures.1 in
    let w = c.in_err-written.ensures.recast m (g.B.Book.lawful c.args.book.now) d.1.accepted (drawn_card m span t c.args.card.now fresh d) in
    let lent : Lengths = record {
      requests = length c.args.requests.now;
      replies = length c.args.replies.now;
      weights = length c.args.weights.now;
      begins = length c.args.begins.now;
      sheet = length c.args.sheet.now;
    } in
    rw (p.1, p.2) (record {
      span = refl;
      answered = short_sheet m span t c.args.card.now lent fresh c.args.sheet.now c.in_err-written.field-0.0 c.write_strata.new.out d c.in_ok-fresh.ensures.1 refl w;
      refused = (refl, refl, refl, refl, w.written.2);
    })

pub returns-clause-answered : goal.returns-clause-answered
returns-clause-answered g c =
    let m = g.B.Book.model c.args.book.now in
    let lawful = g.B.Book.lawful c.args.book.now in
    let t = task_of c.args.task.now in
    let limit = g.D.Board.limit in
    let set = g.D.Board.set in
    let span = limit c.args.board.now in
    let fresh = c.in_ok-fresh.fresh in
    let d = c.in_ok-fresh.ensures.0 in
    let started = c.start.new.board in
    let card = c.start.new.card in
    let drawn = subst (λ (x : Card). DrawAnswered m span t c.args.card.now (Ok x)) (sym c.start.ensures.card) d in
    let e = c.carry_requests.ensures in
    whole g.met.M.Measure.laws m lawful span (limit started) t c.args.card.now card c.carry_requests.new.card (set started) (set c.carry_requests.new.board)
    c.args.requests.now c.args.replies.now c.carry_requests.new.replies c.args.weights.now c.args.begins.now c.timetable.new.begins
    c.args.sheet.now c.write_strata.new.out c.in_ok-end.end c.in_ok-written.written
    drawn c.start.ensures.span c.start.ensures.holds e.plan e.carried e.rest c.in_ok-end.ensures
    (c.in_ok-written.ensures.recast m lawful d.1.accepted (drawn_card m span t c.args.card.now fresh d))
