use Rattle.std.proofs.Common.{rules}
use Rattle.book_writer.proofs.Contents.{step_lawful}
use Rattle.book_writer.proofs.writer.Sizes.of.Goals as goal

pub count_facts-requires-clause-few : goal.count_facts-requires-clause-few
count_facts-requires-clause-few g c =
    let m = g.B.Book.model c.args.book.now in
    let l = step_lawful m (g.B.Book.lawful c.args.book.now) c.args.a in
    let n = c.facts-facts.ensures in
    (m.needs c.args.a, (λ p answer h post. search rules), rw n l.needs.few)

pub count_facts-requires-2-clause-few : goal.count_facts-requires-2-clause-few
count_facts-requires-2-clause-few g c =
    let m = g.B.Book.model c.args.book.now in
    let l = step_lawful m (g.B.Book.lawful c.args.book.now) c.args.a in
    let n = c.facts-facts.ensures in
    (m.adds c.args.a, (λ p answer h post. search rules), rw n l.adds.few)

pub count_facts-requires-3-clause-few : goal.count_facts-requires-3-clause-few
count_facts-requires-3-clause-few g c =
    let m = g.B.Book.model c.args.book.now in
    let l = step_lawful m (g.B.Book.lawful c.args.book.now) c.args.a in
    let n = c.facts-facts.ensures in
    (m.deletes c.args.a, (λ p answer h post. search rules), rw n l.deletes.few)
