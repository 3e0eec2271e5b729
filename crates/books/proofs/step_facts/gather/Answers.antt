use Rattle.std.proofs.Common.{rules}
use Rattle.facts.proofs.Rows.{told_all}
use Rattle.books.proofs.step_facts.gather.Goals as goal

pub returns : goal.returns
returns g c =
    let m = g.B.Book.model c.args.book.now in
    let l = g.B.Book.lawful c.args.book.now in
    let few = l.few_facts in
    let n = c.facts-facts.ensures in
    record {
      needs = told_all _ (m.needs c.args.a) c.facts-facts.result 1024 (rw n few) (λ q h k. let e = c.from_fn.ensures.below q h k in search rules) c.from_fn.ensures.past (rw n (l.needs.no_fact c.args.a));
      adds = told_all _ (m.adds c.args.a) c.facts-facts.result 1024 (rw n few) (λ q h k. let e = c.from_fn-2.ensures.below q h k in search rules) c.from_fn-2.ensures.past (rw n (l.adds.no_fact c.args.a));
      deletes = told_all _ (m.deletes c.args.a) c.facts-facts.result 1024 (rw n few) (λ q h k. let e = c.from_fn-3.ensures.below q h k in search rules) c.from_fn-3.ensures.past (rw n (l.deletes.no_fact c.args.a));
    }
