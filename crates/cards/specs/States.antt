-- The states of a place.
use Rattle.std.specs.Prelude.{Bool, true, false}
use Rattle.cards.specs.declared.state.State.{State}
use Rattle.cards.specs.declared.state.State.TheVariants.{Waiting, InHand, Finished}

abbrev pub finished : State → Bool
finished Waiting = false
finished InHand = false
finished Finished = true

abbrev pub held : State → Bool
held Waiting = false
held InHand = true
held Finished = false

-- in hand or finished
abbrev pub begun : State → Bool
begun Waiting = false
begun InHand = true
begun Finished = true
