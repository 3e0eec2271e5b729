use Rattle.std.proofs.Common.{rules, length, ap, arith}
use Rattle.std.proofs.lemmas.List.{append_assoc}
use Rattle.books.specs.Listed.{members}
use Rattle.sheets.specs.Fields.{twos}
use Rattle.sheets.proofs.Stands.{length_twos}
use Rattle.sheets.proofs.Writers.{writes_on, writes_as}
use Rattle.book_sheets.specs.Content.{step_in}
use Rattle.book_writer.proofs.Lengths.{length_lists}
use Rattle.book_writer.proofs.writer.put_lists.Goals as goal

pub put_facts-requires-clause-room : goal.put_facts-requires-clause-room
put_facts-requires-clause-room g c =
    let m = g.B.Book.model c.args.book.now in
    let e = length_lists (step_in m c.args.a) in
    let n = ap (λ k. length (members (m.needs c.args.a) k)) c.facts-facts.ensures in
    (m.needs c.args.a, (λ p answer h post. search rules), omega arith)

pub put_facts-requires-2-clause-room : goal.put_facts-requires-2-clause-room
put_facts-requires-2-clause-room g c =
    let m = g.B.Book.model c.args.book.now in
    let s = step_in m c.args.a in
    let e = length_lists s in
    let n = length_twos s.needs in
    let a = ap (λ k. length (members (m.adds c.args.a) k)) c.facts-facts.ensures in
    let needs = writes_as (ap (λ k. twos (members (m.needs c.args.a) k)) c.facts-facts.ensures) (c.put_facts.ensures (m.needs c.args.a) (λ p answer h post. search rules)) in
    (m.adds c.args.a, (λ p answer h post. search rules), omega (arith, needs.wrote.place, needs.long))

pub put_facts-requires-3-clause-room : goal.put_facts-requires-3-clause-room
put_facts-requires-3-clause-room g c =
    let m = g.B.Book.model c.args.book.now in
    let s = step_in m c.args.a in
    let e = length_lists s in
    let n = length_twos s.needs in
    let a = length_twos s.adds in
    let d = ap (λ k. length (members (m.deletes c.args.a) k)) c.facts-facts.ensures in
    let needs = writes_as (ap (λ k. twos (members (m.needs c.args.a) k)) c.facts-facts.ensures) (c.put_facts.ensures (m.needs c.args.a) (λ p answer h post. search rules)) in
    let adds = writes_as (ap (λ k. twos (members (m.adds c.args.a) k)) c.facts-facts.ensures) (c.put_facts-2.ensures (m.adds c.args.a) (λ p answer h post. search rules)) in
    (m.deletes c.args.a, (λ p answer h post. search rules), omega (arith, needs.wrote.place, needs.long, adds.wrote.place, adds.long))

pub returns : goal.returns
returns g c =
    let m = g.B.Book.model c.args.book.now in
    let s = step_in m c.args.a in
    let needs = writes_as (ap (λ k. twos (members (m.needs c.args.a) k)) c.facts-facts.ensures) (c.put_facts.ensures (m.needs c.args.a) (λ p answer h post. search rules)) in
    let adds = writes_as (ap (λ k. twos (members (m.adds c.args.a) k)) c.facts-facts.ensures) (c.put_facts-2.ensures (m.adds c.args.a) (λ p answer h post. search rules)) in
    let deletes = writes_as (ap (λ k. twos (members (m.deletes c.args.a) k)) c.facts-facts.ensures) (c.put_facts-3.ensures (m.deletes c.args.a) (λ p answer h post. search rules)) in
    writes_as (append_assoc (twos s.needs) (twos s.adds) (twos s.deletes)) (writes_on (writes_on needs adds) deletes)
