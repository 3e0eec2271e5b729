-- What is answered where a card is drawn up, and how such a card stands.
use Rattle.std.specs.Prelude.{◌≡◌, ℕ, ◌<◌, ◌≤◌, false, Ok, Err, Result}
use Rattle.books.specs.Book.{Model}
use Rattle.books.specs.Listed.{listed}
use Rattle.plans.specs.Places.{Arranged}
use Rattle.task_sheets.specs.Content.{Task}
use Rattle.checks.specs.Checked.{Checked}
use Rattle.checks.specs.Tables.{Exact}
use Rattle.cards.specs.Moments.{Setting}
use Rattle.cards.specs.Cards.{state_of, setting_of, SomeInHand, NoneInHand}
use Rattle.cards.specs.Issues.{Numbered}
use Rattle.cards.specs.declared.card.Card.{Card}
use Rattle.cards.specs.declared.state.State.{State}
use Rattle.cards.specs.declared.state.State.TheVariants.{Waiting}
use Rattle.cards.specs.declared.fault.RunFault.{RunFault}
use Rattle.cards.specs.declared.fault.RunFault.TheVariants.{Plan, InHand, SpanTooSmall, NoPlace, WrongState, Unfinished, TooShort}

-- a card drawn up for a task: the plan is accepted, the board has room for all facts, the start facts are among them,
-- the places are the plan's picked order, precedence is exact, and every place waits
pub record DrawnUp (s : Setting) (t : Task) (state : ℕ → State) : Type 0 where
  pub accepted : Checked s.book t (Ok tt)
  pub room : s.book.facts ≤ s.span
  pub known : (q : ℕ) → s.book.facts ≤ q → listed t.start q ≡ false
  pub places : Arranged s.book t.levels s.places
  pub exact : Exact s.book s.places s.precedes
  pub waiting : (u : ℕ) → state u ≡ Waiting

-- the answer where a card is drawn up for the task t, in place of the card c and beside a board of that span.
-- The plan is looked at first, then the card, then the span
abbrev pub DrawAnswered : Model → ℕ → Task → Card → Result Card RunFault → Type 0
DrawAnswered m span t c (Ok c') = NoneInHand c × DrawnUp (setting_of m span c') t (state_of c') × Numbered c'
DrawAnswered m span t c (Err (Plan f)) = Checked m t (Err f)
DrawAnswered m span t c (Err InHand) = Checked m t (Ok tt) × SomeInHand c
DrawAnswered m span t c (Err SpanTooSmall) = Checked m t (Ok tt) × NoneInHand c × (span < m.facts)
DrawAnswered m span t c (Err NoPlace) = ⊥
DrawAnswered m span t c (Err WrongState) = ⊥
DrawAnswered m span t c (Err (Unfinished u)) = ⊥
DrawAnswered m span t c (Err (TooShort f)) = ⊥
