-- A crew's script as bytes, and what the call that carries it out answers.
use Rattle.std.specs.Prelude.{◌≡◌, ℕ, zero, suc, ◌+◌, ◌-◌, ◌*◌, ◌/◌, ◌^◌, ◌<◌, ◌≤◌, min, cond, List, [], ◌∷◌, ◌++◌, length, Ok, Err, Result, ◌==◌, slice_index}
use Rattle.books.specs.Book.{Model, Facts}
use Rattle.sheets.specs.Fields.{be16}
use Rattle.sheets.specs.Writing.{Wrote}
use Rattle.task_sheets.specs.Content.{Task}
use Rattle.facts.specs.Sets.{holds}
use Rattle.cards.specs.Moments.{Setting, Moment}
use Rattle.cards.specs.Replies.{Replied}
use Rattle.cards.specs.Cards.{size_of, state_of, setting_of, moment_of}
use Rattle.cards.specs.Issues.{Numbered}
use Rattle.cards.specs.Drawing.{DrawnUp, DrawAnswered}
use Rattle.cards.specs.Runs.{Issued}
use Rattle.cards.specs.declared.card.Card.{Card}
use Rattle.cards.specs.declared.state.Event.TheVariants.{Begin, Finish, PutBack}
use Rattle.cards.specs.declared.request.Reply.{Reply}
use Rattle.cards.specs.declared.request.Request.{Request}
use Rattle.cards.specs.declared.request.Request.TheVariants.{Call, Look}
use Rattle.cards.specs.declared.fault.RunFault.{RunFault}
use Rattle.cards.specs.declared.fault.RunFault.TheVariants.{Plan, InHand, SpanTooSmall, NoPlace, WrongState, Unfinished, TooShort}
use Rattle.bench.specs.Records.{word_bytes, bytes_of_reply}
use Rattle.bench.specs.Opening.{OnSheets}

-- the span of the board that is asked for: 0 the bit board, else the tally board
abbrev pub span_for : ℕ → ℕ
span_for tally = cond (tally == 0) 1024 512

-- three bytes of a script: what is asked (0 begin, 1 finish, 2 put back, else a look), and of which place
abbrev pub request_in : List ℕ → ℕ → Request
request_in xs at =
    cond (slice_index xs at == 0) (Call (record { event = Begin; place = be16 xs (at + 1) }))
    (cond (slice_index xs at == 1) (Call (record { event = Finish; place = be16 xs (at + 1) }))
    (cond (slice_index xs at == 2) (Call (record { event = PutBack; place = be16 xs (at + 1) })) (Look (be16 xs (at + 1)))))

-- the length of the records of a script
abbrev pub room : List ℕ → ℕ
room script = 144 * (length script / 3)

-- the first n requests of a script
abbrev pub requests_to : List ℕ → ℕ → List Request
requests_to script zero = []
requests_to script (suc n) = requests_to script n ++ (request_in script (3 * n) ∷ [])

-- the bytes record requests that are carried out in turn from the moment b to the moment e: of each the reply, and the facts on
-- the board after it
abbrev pub Told : Setting → Moment → List Request → List ℕ → Moment → Type 0
Told s b [] ys e = (ys ≡ []) × (e ≡ b)
Told s b (q ∷ qs) ys e =
    (r : Reply) × (a : Moment) × (words rest : List ℕ)
    × Replied s b q r a × ((p : ℕ) → holds words p ≡ a.board p) × (ys ≡ (bytes_of_reply r ++ word_bytes words) ++ rest) × Told s a qs rest e

-- a script is carried out from a moment on: its records stand at the front of the buffer, n bytes of them, and bytes behind them
-- are as they were
pub record Records (s : Setting) (b : Moment) (script before : List ℕ) (n : ℕ) (after : List ℕ) : Type 0 where
  pub bytes : List ℕ
  pub end : Moment
  pub size : n ≡ room script
  pub told : Told s b (requests_to script (length script / 3)) bytes end
  pub wrote : Wrote before 0 bytes after n

-- a run: the card was drawn up for the task, the task is issued, and the rest is as P says of the setting and the moment then
abbrev pub Ran : Model → ℕ → Task → (Setting → Moment → Type 0) → Type 0
Ran m span t P =
    (c : Card) × (board : Facts) × DrawnUp (setting_of m span c) t (state_of c) × Issued (setting_of m span c) t (moment_of c board) × Numbered c
    × P (setting_of m span c) (moment_of c board)

-- the run is refused as the card would not be drawn up, and the buffer is as it was
abbrev pub NotRun : Model → ℕ → Task → RunFault → List ℕ → List ℕ → Type 0
NotRun m span t f before after = (c : Card) × (size_of c ≡ 0) × DrawAnswered m span t c (Err f) × (after ≡ before)

-- the answer to a run, from a card without places and a board of that span: the length of the records; or that the buffer is too
-- short for them, with the length that is needed, which stops at the top of its type, and then it is as it was
abbrev pub RunAnswered : Model → ℕ → Task → List ℕ → List ℕ → Result ℕ RunFault → List ℕ → Type 0
RunAnswered m span t script before (Ok n) after = Ran m span t (λ s b. (room script ≤ length before) × Records s b script before n after)
RunAnswered m span t script before (Err (TooShort e)) after =
    Ran m span t (λ s b. (length before < room script) × (e.needed ≡ min (room script) (2 ^ 64 - 1)) × (after ≡ before))
RunAnswered m span t script before (Err (Plan f)) after = NotRun m span t (Plan f) before after
RunAnswered m span t script before (Err InHand) after = NotRun m span t InHand before after
RunAnswered m span t script before (Err SpanTooSmall) after = NotRun m span t SpanTooSmall before after
RunAnswered m span t script before (Err NoPlace) after = NotRun m span t NoPlace before after
RunAnswered m span t script before (Err WrongState) after = NotRun m span t WrongState before after
RunAnswered m span t script before (Err (Unfinished u)) after = NotRun m span t (Unfinished u) before after

abbrev pub BytesRun : List ℕ → List ℕ → ℕ → List ℕ → List ℕ → Result ℕ RunFault → List ℕ → Type 0
BytesRun bs ts span script before r after = OnSheets bs ts before r after (λ m t. RunAnswered m span t script before r after)
