-- Calls on two sheets that both open, and runs that are refused or recorded.
use Rattle.std.proofs.Common.{◌≡◌, ℕ, List, Ok, Err, Result, subst, arith}
use Rattle.books.specs.Book.{Model, Facts}
use Rattle.task_sheets.specs.Content.{Task, LawfulTask}
use Rattle.cards.specs.Moments.{Moment}
use Rattle.cards.specs.Cards.{size_of, state_of, setting_of, moment_of}
use Rattle.cards.specs.Runs.{Issued}
use Rattle.cards.specs.Issues.{IssueAnswered}
use Rattle.cards.specs.Drawing.{DrawnUp, DrawAnswered}
use Rattle.cards.specs.declared.card.Card.{Card}
use Rattle.cards.specs.declared.fault.RunFault.{RunFault}
use Rattle.cards.specs.declared.fault.RunFault.TheVariants.{Plan, InHand, SpanTooSmall, NoPlace, WrongState, Unfinished, TooShort}
use Rattle.cards.proofs.Drawing.{start_known}
use Rattle.listings.specs.Listings.{book_in, task_in}
use Rattle.bench.specs.Opening.{Opens, OnSheets}
use Rattle.bench.specs.Running.{Records, RunAnswered}

-- both sheets open, and the rest is said of what they say
pub on_open : {X : Type 0} (bs ts bs' ts' before : List ℕ) (r : Result X RunFault) (after : List ℕ) (P : Model → Task → Type 0)
    → Opens bs ts (Ok tt) → bs' ≡ bs → ts' ≡ ts → P (book_in bs') (task_in ts') → OnSheets bs ts before r after P
on_open bs ts bs' ts' before r after P o b t h =
    record {
      opened = Ok tt;
      opens = o;
      past = subst (λ ys. P (book_in ys) (task_in ts)) b (subst (λ ys. P (book_in bs') (task_in ys)) t h);
    }

-- the card of a lawful task that is issued was drawn up for it
pub drawn : (m : Model) (span : ℕ) (t : Task) (c : Card) (board : Facts) → LawfulTask t
    → Issued (setting_of m span c) t (moment_of c board) → DrawnUp (setting_of m span c) t (state_of c)
drawn m span t c board law i =
    record {
      accepted = i.accepted;
      room = i.room;
      known = λ q l. start_known t law q (omega (arith, i.accepted.0.facts));
      places = i.places;
      exact = i.exact;
      waiting = i.waiting;
    }

-- an issue is refused as the card would not be drawn up
pub not_drawn : (m : Model) (span : ℕ) (t : Task) (c c' : Card) (f : RunFault) (board : Facts) → IssueAnswered m span t c (Err f) c' board → DrawAnswered m span t c (Err f)
not_drawn m span t c c' (Plan f) board h = h
not_drawn m span t c c' InHand board h = h
not_drawn m span t c c' SpanTooSmall board h = h
not_drawn m span t c c' NoPlace board h = h
not_drawn m span t c c' WrongState board h = h
not_drawn m span t c c' (Unfinished u) board h = h
not_drawn m span t c c' (TooShort f) board h = h

-- the issue is refused
pub not_issued : (m : Model) (span : ℕ) (t : Task) (script before after : List ℕ) (c : Card) (r : Result ℕ RunFault) (f : RunFault)
    → r ≡ Err f → size_of c ≡ 0 → DrawAnswered m span t c (Err f) → after ≡ before → RunAnswered m span t script before r after
not_issued m span t script before after c r (Plan f) e z d s = rw e (c, z, d, s)
not_issued m span t script before after c r InHand e z d s = rw e (c, z, d, s)
not_issued m span t script before after c r SpanTooSmall e z d s = rw e (c, z, d, s)
not_issued m span t script before after c r NoPlace e z d s = absurd d
not_issued m span t script before after c r WrongState e z d s = absurd d
not_issued m span t script before after c r (Unfinished u) e z d s = absurd d
not_issued m span t script before after c r (TooShort f) e z d s = absurd d

-- the records on a board whose span is known by another name
pub records_at : (m : Model) (span span' : ℕ) (c : Card) (b : Moment) (script before : List ℕ) (n : ℕ) (after : List ℕ)
    → span' ≡ span → Records (setting_of m span' c) b script before n after → Records (setting_of m span c) b script before n after
records_at m span span' c b script before n after e h = subst (λ k. Records (setting_of m k c) b script before n after) e h
