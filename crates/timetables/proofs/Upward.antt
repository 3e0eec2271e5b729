-- On every card a place precedes only higher places of the card.
use Rattle.std.proofs.Common.{◌≡◌, ℕ, ◌<◌, true}
use Rattle.std.proofs.lemmas.Bool.{and_parts, ltb-true}
use Rattle.cards.specs.Cards.{size_of, precedes_of}
use Rattle.cards.specs.declared.card.Card.{Card}

pub upward : (card : Card) (u v : ℕ) → precedes_of card u v ≡ true → (u < v) × (v < size_of card)
upward card u v h = let parts = and_parts _ _ (card.plan.upward u v h) in (ltb-true u v parts.0, ltb-true v (size_of card) parts.1)
