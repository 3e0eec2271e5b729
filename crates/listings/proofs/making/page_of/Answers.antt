use Rattle.std.proofs.Common.{subst}
use Rattle.checks.specs.Rows.{marked}
use Rattle.checks.specs.declared.arrangement.Arrangement.{Arrangement}
use Rattle.timetables.specs.Measures.{second_scale}
use Rattle.timetables.specs.Timetable.{Timetabled}
use Rattle.timetables.specs.Strata.{Stratified}
use Rattle.listings.proofs.Tables.{inside, layered, layers, timed}
use Rattle.listings.proofs.making.page_of.Goals as goal

pub returns : goal.returns
returns g c =
    let m = g.B.Book.model c.args.book.now in
    let a = c.args.plan in
    let e = c.waiting-card.ensures.plan in
    let s = subst (λ (q : Arrangement). Stratified q.count (marked q.before) _ c.strata.new.begins c.strata.result) e c.strata.ensures in
    let t = subst (λ (q : Arrangement). Timetabled second_scale q.count (marked q.before) c.weights.result _ c.timetable.new.begins c.timetable.result) e c.timetable.ensures in
    record {
      arranged = c.requires.arranged;
      numbered = c.requires.numbered;
      levels = c.levels.ensures.says;
      precedes = marked a.before;
      inside = inside m a;
      exact = c.requires.exact;
      strata = layered m a _ c.strata.new.begins c.strata.result c.unwrap-height.result c.unwrap-height.ensures s;
      layers = layers m a _ c.strata.new.begins c.strata.result c.unwrap-height.result c.unwrap-height.ensures s;
      seconds = timed m a c.weights.result _ c.timetable.new.begins c.timetable.result c.unwrap-end.result c.weights.ensures.weighed c.unwrap-end.ensures t;
    }
