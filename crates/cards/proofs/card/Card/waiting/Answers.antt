use Rattle.std.proofs.Common.{refl, ap}
use Rattle.std.proofs.lemmas.Bool.{both_ways}
use Rattle.cards.specs.States.{begun}
use Rattle.cards.proofs.Fresh.{every_place_waits}
use Rattle.cards.proofs.card.Card.waiting.Goals as goal

pub invariant_of-result : goal.invariant_of-result
invariant_of-result c = record { sized = refl; sound = λ u v h. absurd (both_ways _ (ap begun (every_place_waits 256 v)) h.1) }

pub returns-clause-states : goal.returns-clause-states
returns-clause-states c u = every_place_waits 256 u
