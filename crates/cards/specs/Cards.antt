-- What a card says: its setting, its moment, and what a look at it answers.
use Rattle.std.specs.Prelude.{◌≡◌, ℕ, ◌<◌, ◌≤◌, Bool, true, false, Ok, Err, Result, slice_index_or}
use Rattle.books.specs.Book.{Model, Facts}
use Rattle.checks.specs.Rows.{marked}
use Rattle.checks.specs.Tables.{blank, places_in}
use Rattle.checks.specs.declared.arrangement.Place.{Place}
use Rattle.cards.specs.States.{finished, held}
use Rattle.cards.specs.Moments.{Setting, Moment}
use Rattle.cards.specs.Answers.{Answered}
use Rattle.cards.specs.Replies.{Replied}
use Rattle.cards.specs.declared.card.Card.{Card}
use Rattle.cards.specs.declared.state.State.{State}
use Rattle.cards.specs.declared.state.State.TheVariants.{Waiting}
use Rattle.cards.specs.declared.state.Event.{Event}
use Rattle.cards.specs.declared.request.Request.{Request}
use Rattle.cards.specs.declared.request.Reply.{Reply}
use Rattle.cards.specs.declared.fault.RunFault.{RunFault}
use Rattle.cards.specs.declared.fault.RunFault.TheVariants.{Plan, InHand, SpanTooSmall, NoPlace, WrongState, Unfinished, TooShort}

-- the state of a place of the card
abbrev pub state_of : Card → ℕ → State
state_of c u = slice_index_or c.states u Waiting

-- whether a place of the card is finished
abbrev pub done_of : Card → ℕ → Bool
done_of c u = finished (state_of c u)

-- the place with number u
abbrev pub place_of : Card → ℕ → Place
place_of c u = slice_index_or c.plan.places u blank

-- how many places there are
abbrev pub size_of : Card → ℕ
size_of c = c.plan.count

-- whether place u precedes place v by the card's table
abbrev pub precedes_of : Card → ℕ → ℕ → Bool
precedes_of c = marked c.plan.before

-- some place is in hand, or none is
abbrev pub SomeInHand : Card → Type 0
SomeInHand c = (u : ℕ) × (u < size_of c) × (held (state_of c u) ≡ true)

abbrev pub NoneInHand : Card → Type 0
NoneInHand c = (u : ℕ) → u < size_of c → held (state_of c u) ≡ false

-- the setting of a card beside a book and a board of that span
abbrev pub setting_of : Model → ℕ → Card → Setting
setting_of m span c = record { book = m; span = span; places = places_in c.plan.count c.plan.places; precedes = precedes_of c }

-- the moment of a card beside a board that holds these facts
abbrev pub moment_of : Card → Facts → Moment
moment_of c board = record { state = state_of c; board = board }

-- the answer to an event at place p of the card c, beside a book and a board of that span; c' and board' stand after it
abbrev pub Called : Model → ℕ → Card → Facts → Event → ℕ → Result (Unit {0}) RunFault → Card → Facts → Type 0
Called m span c board e p r c' board' = Answered (setting_of m span c) (moment_of c board) e p r (moment_of c' board')

-- the reply to a request on the card c, beside a book and a board of that span; c' and board' stand after it
abbrev pub RequestReplied : Model → ℕ → Card → Facts → Request → Reply → Card → Facts → Type 0
RequestReplied m span c board q r c' board' = Replied (setting_of m span c) (moment_of c board) q r (moment_of c' board')

-- the answer of a look: the place's step, its level by number from 1, and its state; or that there is no such place
abbrev pub Looked : Card → ℕ → Result (ℕ × ℕ × State) RunFault → Type 0
Looked c p (Ok x) = (p < size_of c) × (x.0 ≡ (place_of c p).step) × (x.1 ≡ (place_of c p).level) × (x.2 ≡ state_of c p)
Looked c p (Err NoPlace) = size_of c ≤ p
Looked c p (Err (Plan f)) = ⊥
Looked c p (Err InHand) = ⊥
Looked c p (Err SpanTooSmall) = ⊥
Looked c p (Err WrongState) = ⊥
Looked c p (Err (Unfinished u)) = ⊥
Looked c p (Err (TooShort f)) = ⊥
