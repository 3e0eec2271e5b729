-- The law of a whole run: what one call that issues a task, carries a crew's requests out, times the places and recasts the plan promises.
use Rattle.std.specs.Prelude.{◌≡◌, ℕ, ◌≤◌, false, List, [], ◌∷◌, ◌++◌, map, length, take, drop, Ok, Err}
use Rattle.books.specs.Book.{Model, Facts}
use Rattle.books.specs.Listed.{listed}
use Rattle.task_sheets.specs.Content.{Task, encode}
use Rattle.cards.specs.Moments.{Setting, Moment}
use Rattle.cards.specs.Cards.{size_of, precedes_of, setting_of, moment_of, NoneInHand}
use Rattle.cards.specs.Runs.{Issued}
use Rattle.cards.specs.Requests.{Made, Trail, after_all, RunKept, OneTrail}
use Rattle.cards.specs.Drawing.{DrawAnswered}
use Rattle.cards.specs.declared.card.Card.{Card}
use Rattle.cards.specs.declared.request.Request.{Request}
use Rattle.cards.specs.declared.request.Reply.{Reply}
use Rattle.cards.specs.declared.fault.RunFault.{RunFault}
use Rattle.cards.specs.declared.fault.RunFault.TheVariants.{Plan, InHand, SpanTooSmall, NoPlace, WrongState, Unfinished, TooShort}
use Rattle.recasts.specs.Recasts.{RecastOf, RecastWritten}
use Rattle.timetables.specs.Scale.{Scale}
use Rattle.timetables.specs.Timetable.{Timetabled}
use Rattle.runs.specs.Rooms.{Lent, FirstShort}
use Rattle.runs.specs.Times.{EveryTimetable}
use Rattle.runs.specs.declared.lengths.Lengths.{Lengths}

-- the requests are carried out in turn from the moment b on: one reply for each, and the last leaves the moment e
pub record Carried (s : Setting) (b : Moment) (requests : List Request) (replies : List Reply) (e : Moment) : Type 0 where
  pub calls : List Made
  pub asked : map (λ c. c.asked) calls ≡ requests
  pub told : map (λ c. c.told) calls ≡ replies
  pub trail : Trail s b calls
  pub ends : after_all b calls ≡ e

-- the buffers in the order in which they are looked at: a reply for each request, a weight and a begin for each place, and the bytes
-- of the recast task
abbrev pub by_places : Lengths → ℕ → List Lent
by_places n places =
    record { needed = n.requests; had = n.replies } ∷ record { needed = places; had = n.weights } ∷ record { needed = places; had = n.begins } ∷ []

abbrev pub buffers : Lengths → Card → Task → List Lent
buffers n c t' = by_places n (size_of c) ++ record { needed = length (encode t'); had = n.sheet } ∷ []

-- a card can be drawn up, and the task recast, but a buffer is too short
pub record Short (m : Model) (span : ℕ) (t : Task) (c₀ : Card) (n : Lengths) (needed : ℕ) : Type 0 where
  pub card : Card
  pub drawn : DrawAnswered m span t c₀ (Ok card)
  pub task : Task
  pub recast : RecastOf m t task
  pub first : FirstShort (buffers n card task) needed

-- why a run is refused: as an issue is, or for a buffer that is too short
abbrev pub RunRefused : Model → ℕ → Task → Card → Lengths → RunFault → Type 0
RunRefused m span t c n (Plan f) = DrawAnswered m span t c (Err (Plan f))
RunRefused m span t c n InHand = DrawAnswered m span t c (Err InHand)
RunRefused m span t c n SpanTooSmall = DrawAnswered m span t c (Err SpanTooSmall)
RunRefused m span t c n NoPlace = ⊥
RunRefused m span t c n WrongState = ⊥
RunRefused m span t c n (Unfinished u) = ⊥
RunRefused m span t c n (TooShort e) = Short m span t c n e.needed

module _ {M : Type 0} (s : Scale M) (m : Model) (span : ℕ) (t : Task) (c₀ : Card) where
  -- what holds of a run that was carried out. c and board stand at its end; end is the timetable's, and so many bytes are the recast sheet
  pub record WholeRun (requests : List Request) (replies₀ replies : List Reply) (weights begins₀ begins : List M) (sheet₀ sheet : List ℕ) (c : Card) (board : Facts) (end : M) (written : ℕ) : Type 0 where
    pub idle : NoneInHand c₀
    -- the start facts are among the book's
    pub known : (q : ℕ) → m.facts ≤ q → listed t.start q ≡ false
    -- the moment after the issue
    pub issued : Moment
    pub from : Issued (setting_of m span c) t issued
    -- the crew's run from there, one reply for each request; it keeps the law of runs at every moment
    pub own : Carried (setting_of m span c) issued requests (take (length requests) replies) (moment_of c board)
    pub kept : RunKept (setting_of m span c) t issued own.calls
    pub rest : drop (length requests) replies ≡ drop (length requests) replies₀
    -- and so does every run from there; whatever is asked leaves one
    pub every : (calls : List Made) → Trail (setting_of m span c) issued calls → RunKept (setting_of m span c) t issued calls
    pub one : (asked : List Request) → OneTrail (setting_of m span c) issued asked
    -- the timetable written, and those of every card
    pub timed : Timetabled s (size_of c) (precedes_of c) weights begins₀ begins (Ok end)
    pub times : EveryTimetable s
    -- the sheet of the recast task
    pub recast : RecastWritten m t sheet₀ (Ok written) sheet
