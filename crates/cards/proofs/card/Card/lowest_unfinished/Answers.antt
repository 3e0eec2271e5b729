use Rattle.std.proofs.Common.{rules}
use borrow.Author.Tests.{tests}
use Rattle.std.proofs.lemmas.Iterator.{first_from_Range}
use Rattle.cards.proofs.Lowest.{Waits, Passed, lowest}
use Rattle.cards.proofs.card.Card.lowest_unfinished.Goals as goal

pub returns : goal.returns
returns c =
    let card = c.args.self.now in
    lowest card c.args.place c.requires c.find.result
    (first_from_Range _ _ _ c.find.result (Waits card c.args.place) (Passed card c.args.place) c.find.ensures.ran (λ x q k. search (rules, tests)) (λ x q k. search (rules, tests)))
