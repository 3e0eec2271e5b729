-- What is answered to a begin, a finish or a put back at a place, and the moment after it.
use Rattle.std.specs.Prelude.{◌≡◌, ℕ, ◌<◌, ◌≤◌, ◌↔◌, Ok, Err, Result, ◌≢◌}
use Rattle.books.specs.Book.{Facts}
use Rattle.cards.specs.Moments.{Setting, Moment, done, turned, Cleared, Lowest, worked}
use Rattle.cards.specs.declared.state.State.{State}
use Rattle.cards.specs.declared.state.State.TheVariants.{Waiting, InHand, Finished}
use Rattle.cards.specs.declared.state.Event.{Event}
use Rattle.cards.specs.declared.state.Event.TheVariants.{Begin, Finish, PutBack}
use Rattle.cards.specs.declared.fault.RunFault.{RunFault}
use Rattle.cards.specs.declared.fault.RunFault.TheVariants.{Plan, InHand as StepInHand, SpanTooSmall, NoPlace, WrongState, Unfinished, TooShort}

-- the state that an event asks for, and the state that it leaves
abbrev pub asks : Event → State
asks Begin = Waiting
asks Finish = InHand
asks PutBack = InHand

abbrev pub leaves : Event → State
leaves Begin = InHand
leaves Finish = Finished
leaves PutBack = Waiting

-- nothing changed
pub record Unmoved (b a : Moment) : Type 0 where
  pub state : (u : ℕ) → a.state u ≡ b.state u
  pub board : (q : ℕ) → a.board q ≡ b.board q

module _ (s : Setting) where
  -- the rule: the place is there and in the state that the event asks for, and where it is to begin every preceding place is finished
  pub record Granted (b : Moment) (e : Event) (p : ℕ) : Type 0 where
    pub there : p < s.places.size
    pub state : b.state p ≡ asks e
    pub cleared : e ≡ Begin → Cleared s.places.size s.precedes (done b) p

  -- a finish does the step on the board; a begin or a put back leaves the board
  abbrev pub board_after : Facts → Event → ℕ → Facts
  board_after board Begin p = board
  board_after board Finish p = worked s board p
  board_after board PutBack p = board

  -- the place has gone to the state that the event leaves, and no other place has moved
  pub record Moved (b : Moment) (e : Event) (p : ℕ) (a : Moment) : Type 0 where
    pub state : (u : ℕ) → a.state u ≡ turned b.state p (leaves e) u
    pub board : (q : ℕ) → a.board q ≡ board_after b.board e p q

  -- the answer to a call, and the moment after it
  abbrev pub Answered : Moment → Event → ℕ → Result (Unit {0}) RunFault → Moment → Type 0
  Answered b e p (Ok _) a = Granted b e p × Moved b e p a
  Answered b e p (Err NoPlace) a = (s.places.size ≤ p) × Unmoved b a
  Answered b e p (Err WrongState) a = (p < s.places.size) × (b.state p ≢ asks e) × Unmoved b a
  Answered b e p (Err (Unfinished u)) a = (p < s.places.size) × (e ≡ Begin) × (b.state p ≡ Waiting) × Lowest s.places.size s.precedes (done b) p u × Unmoved b a
  Answered b e p (Err (Plan f)) a = ⊥
  Answered b e p (Err StepInHand) a = ⊥
  Answered b e p (Err SpanTooSmall) a = ⊥
  Answered b e p (Err (TooShort f)) a = ⊥

-- every moment and call has an answer and a moment after it
abbrev pub SomeAnswer : Type 0
SomeAnswer = (s : Setting) (b : Moment) (e : Event) (p : ℕ) → (r : Result (Unit {0}) RunFault) × (a : Moment) × Answered s b e p r a

-- and no two
abbrev pub OneAnswer : Type 0
OneAnswer =
    (s : Setting) (b : Moment) (e : Event) (p : ℕ) (r r' : Result (Unit {0}) RunFault) (a a' : Moment)
    → Answered s b e p r a → Answered s b e p r' a' → (r ≡ r') × (a ≡ a')

-- a call is granted exactly where the rule grants it
abbrev pub GrantedByRule : Type 0
GrantedByRule =
    (s : Setting) (b : Moment) (e : Event) (p : ℕ) (r : Result (Unit {0}) RunFault) (a : Moment)
    → Answered s b e p r a → (r ≡ Ok tt) ↔ Granted s b e p
