-- Runs: how things stand after an issue, and what holds at every moment from then on, whatever is called.
use Rattle.std.specs.Prelude.{◌≡◌, ℕ, ◌<◌, ◌≤◌, false, ◌⊎◌, ◌↔◌, List, Ok, Result, ◌≢◌}
use Rattle.books.specs.Book.{Lawful}
use Rattle.books.specs.Listed.{listed}
use Rattle.plans.specs.Steps.{Disturb, Met}
use Rattle.plans.specs.Plans.{finally}
use Rattle.plans.specs.Places.{Arranged, left}
use Rattle.task_sheets.specs.Content.{Task}
use Rattle.checks.specs.Checked.{Checked}
use Rattle.checks.specs.Tables.{Exact}
use Rattle.cards.specs.Moments.{Setting, Moment, done}
use Rattle.cards.specs.Trails as trails
pub use Rattle.cards.specs.Trails.{Throughout, after_all}
use Rattle.cards.specs.Answers.{Granted, Answered}
use Rattle.cards.specs.declared.state.State.TheVariants.{Waiting, InHand, Finished}
use Rattle.cards.specs.declared.state.Event.TheVariants.{Begin, Finish}
use Rattle.cards.specs.declared.state.Attempt.{Attempt}
use Rattle.cards.specs.declared.fault.RunFault.{RunFault}

-- how things stand after the issue of a task: the plan is accepted, the places are its picked order, precedence is exact, every place waits,
-- and the board, which has room for all facts, holds the start facts and no others
pub record Issued (s : Setting) (t : Task) (b : Moment) : Type 0 where
  pub accepted : Checked s.book t (Ok tt)
  pub room : s.book.facts ≤ s.span
  pub places : Arranged s.book t.levels s.places
  pub exact : Exact s.book s.places s.precedes
  pub waiting : (u : ℕ) → b.state u ≡ Waiting
  pub start : (q : ℕ) → b.board q ≡ listed t.start q

-- some place is unfinished
abbrev pub Remains : Setting → Moment → Type 0
Remains s b = (p : ℕ) × (p < s.places.size) × (done b p ≡ false)

-- a begin or a finish would be granted
abbrev pub GoesOn : Setting → Moment → Type 0
GoesOn s b = (p : ℕ) × (Granted s b Begin p ⊎ Granted s b Finish p)

-- what holds at every moment of a run
pub record Kept (s : Setting) (t : Task) (b : Moment) : Type 0 where
  -- each step in hand has its needs on the board
  pub needs : (p : ℕ) → p < s.places.size → b.state p ≡ InHand → Met s.book b.board (s.places.step p)
  -- no two different places in hand hold steps that disturb each other
  pub apart : (p q : ℕ) → p < s.places.size → q < s.places.size → (p ≢ q) → b.state p ≡ InHand → b.state q ≡ InHand
      → Disturb s.book (s.places.step p) (s.places.step q) → ⊥
  -- the board holds exactly what the finished places leave of the start facts, done singly in plan order
  pub board : (q : ℕ) → b.board q ≡ left s.book s.places (listed t.start) (done b) q
  -- a begin or a finish would be granted exactly where some place is unfinished
  pub onward : GoesOn s b ↔ Remains s b
  -- when every place is finished, the board holds the plan's final facts
  pub final : ((p : ℕ) → p < s.places.size → b.state p ≡ Finished) → (q : ℕ) → b.board q ≡ finally s.book (listed t.start) t.levels q

-- the law of runs, for a kind of asking: whatever is asked after the issue of an accepted plan, every moment is kept, and each
-- asking is told by the rule of its moment
module _ {Ask Tell : Type 0} (Told : Setting → Moment → Ask → Tell → Moment → Type 0) (Right : Setting → Moment → Ask → Tell → Type 0) where
  abbrev pub LawOf : Type 0
  LawOf =
      (s : Setting) → Lawful s.book → (t : Task) (b : Moment) → Issued s t b
      → (calls : List (trails.Made Ask Tell)) → trails.Trail Told s b calls → trails.RunKept Right (Kept s t) s b calls

-- a call is answered so, and granted exactly where the rule grants it
abbrev pub CallAnswered : Setting → Moment → Attempt → Result (Unit {0}) RunFault → Moment → Type 0
CallAnswered s b c r a = Answered s b c.event c.place r a

abbrev pub CallRightly : Setting → Moment → Attempt → Result (Unit {0}) RunFault → Type 0
CallRightly s b c r = (r ≡ Ok tt) ↔ Granted s b c.event c.place

-- a call that was made: what was asked, what was answered, and the moment after it
abbrev pub Made : Type 0
Made = trails.Made Attempt (Result (Unit {0}) RunFault)

-- calls made one after the other from a moment on, granted or refused, each answered upon the moment that the last one left
abbrev pub Trail : Setting → Moment → List Made → Type 0
Trail = trails.Trail CallAnswered

-- each call is granted exactly where the rule grants it
abbrev pub ByRule : Setting → Moment → List Made → Type 0
ByRule = trails.ByRule CallRightly

-- what holds of a run from a moment on
abbrev pub RunKept : Setting → Task → Moment → List Made → Type 0
RunKept s t b calls = trails.RunKept CallRightly (Kept s t) s b calls

-- the law of runs: however the places of an accepted plan are begun, finished and put back after its issue
abbrev pub RunLaw : Type 0
RunLaw = LawOf CallAnswered CallRightly

-- whatever is asked, in whatever order, leaves one trail and no other
abbrev pub OneTrail : Setting → Moment → List Attempt → Type 0
OneTrail = trails.OneTrail CallAnswered

abbrev pub EachRun : Type 0
EachRun = (s : Setting) (b : Moment) (asked : List Attempt) → OneTrail s b asked
