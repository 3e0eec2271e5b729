-- What is answered to an issue, and what then stands on the card and the board.
use Rattle.std.specs.Prelude.{◌≡◌, ℕ, ◌<◌, Ok, Err, Result}
use Rattle.books.specs.Book.{Model, Facts}
use Rattle.task_sheets.specs.Content.{Task}
use Rattle.checks.specs.Checked.{Checked}
use Rattle.cards.specs.Cards.{size_of, place_of, setting_of, moment_of, SomeInHand, NoneInHand}
use Rattle.cards.specs.Runs.{Issued}
use Rattle.cards.specs.declared.card.Card.{Card}
use Rattle.cards.specs.declared.fault.RunFault.{RunFault}
use Rattle.cards.specs.declared.fault.RunFault.TheVariants.{Plan, InHand, SpanTooSmall, NoPlace, WrongState, Unfinished, TooShort}

-- levels go by their numbers from 1
abbrev pub Numbered : Card → Type 0
Numbered c = (u : ℕ) → u < size_of c → 0 < (place_of c u).level

-- the answer to an issue of the task t on the card c and a board of that span; c' and board' stand after it.
-- The plan is looked at first, then the card, then the span; where none of them refuses, the task is issued
abbrev pub IssueAnswered : Model → ℕ → Task → Card → Result (Unit {0}) RunFault → Card → Facts → Type 0
IssueAnswered m span t c (Ok _) c' board' = NoneInHand c × Issued (setting_of m span c') t (moment_of c' board') × Numbered c'
IssueAnswered m span t c (Err (Plan f)) c' board' = Checked m t (Err f)
IssueAnswered m span t c (Err InHand) c' board' = Checked m t (Ok tt) × SomeInHand c
IssueAnswered m span t c (Err SpanTooSmall) c' board' = Checked m t (Ok tt) × NoneInHand c × (span < m.facts)
IssueAnswered m span t c (Err NoPlace) c' board' = ⊥
IssueAnswered m span t c (Err WrongState) c' board' = ⊥
IssueAnswered m span t c (Err (Unfinished u)) c' board' = ⊥
IssueAnswered m span t c (Err (TooShort f)) c' board' = ⊥

-- no issue has two answers; so every accepted plan is issued, unless a step is in hand or the span is too small
abbrev pub OneIssueAnswer : Type 0
OneIssueAnswer =
    (m : Model) (span : ℕ) (t : Task) (c : Card) (r r' : Result (Unit {0}) RunFault) (c₁ c₂ : Card) (board₁ board₂ : Facts)
    → IssueAnswered m span t c r c₁ board₁ → IssueAnswered m span t c r' c₂ board₂ → r ≡ r'
