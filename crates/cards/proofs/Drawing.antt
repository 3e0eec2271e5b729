-- A card that is drawn up, and the issue that follows.
use Rattle.std.proofs.Common.{◌≡◌, ℕ, ◌≤◌, false, ◌&&◌, ltb, Ok, sym, ap, ◌∙◌, subst, arith}
use Rattle.std.proofs.lemmas.Bool.{le-ltb}
use Rattle.books.specs.Book.{Model}
use Rattle.books.specs.Listed.{listed}
use Rattle.task_sheets.specs.Content.{Task, LawfulTask}
use Rattle.checks.specs.Checked.{Checked}
use Rattle.checks.specs.Arrangements.{Arranges}
use Rattle.checks.specs.declared.arrangement.Arrangement.{Arrangement}
use Rattle.checks.proofs.TaskLists.{listed_below}
use Rattle.cards.specs.Moments.{Setting, Moment}
use Rattle.cards.specs.Cards.{state_of, setting_of}
use Rattle.cards.specs.Runs.{Issued}
use Rattle.cards.specs.Issues.{Numbered}
use Rattle.cards.specs.Drawing.{DrawnUp}
use Rattle.cards.specs.declared.card.Card.{Card}
use Rattle.cards.specs.declared.state.State.{State}
use Rattle.cards.specs.declared.state.State.TheVariants.{Waiting}
use Rattle.cards.proofs.Spans.{cut}

-- no start fact of a lawful task is past the facts
pub start_known : (t : Task) → LawfulTask t → (q : ℕ) → t.facts ≤ q → listed t.start q ≡ false
start_known t law q l = sym (listed_below t.start t.facts q law.start.below) ∙ ap (λ x. x && listed t.start q) (le-ltb q t.facts l)

-- every start fact is below a span that has room for all facts
pub start_held : (t : Task) → LawfulTask t → (span q : ℕ) → t.facts ≤ span → (listed t.start q && ltb q span) ≡ listed t.start q
start_held t law span q room = cut (listed t.start q) span q (λ l. start_known t law q (omega arith))

-- every start fact is below the span
pub drawn_held : (s : Setting) (t : Task) (state : ℕ → State) → DrawnUp s t state → (q : ℕ) → (listed t.start q && ltb q s.span) ≡ listed t.start q
drawn_held s t state w q = cut (listed t.start q) s.span q (λ l. w.known q (omega (arith, w.room)))

-- a card that is drawn up, beside a board that holds the start facts below its span
pub drawn_issued : (s : Setting) (t : Task) (b : Moment) → DrawnUp s t b.state → ((q : ℕ) → b.board q ≡ (listed t.start q && ltb q s.span)) → Issued s t b
drawn_issued s t b w f = record {
  accepted = w.accepted;
  room = w.room;
  places = w.places;
  exact = w.exact;
  waiting = w.waiting;
  start = λ q. f q ∙ drawn_held s t b.state w q;
}

module _ (m : Model) (span : ℕ) (t : Task) (law : LawfulTask t) (fresh : Card) (a : Arrangement) (arranges : Arranges m t a) (same : fresh.plan ≡ a) where
  onto : Arranges m t fresh.plan
  onto = subst (λ (x : Arrangement). Arranges m t x) (sym same) arranges

  -- a card on which every place of an arranged plan waits
  pub drawn_up : Checked m t (Ok tt) → m.facts ≤ span → ((u : ℕ) → state_of fresh u ≡ Waiting) → DrawnUp (setting_of m span fresh) t (state_of fresh)
  drawn_up accepted room waiting = record {
    accepted = accepted;
    room = room;
    known = λ q l. start_known t law q (omega (arith, accepted.0.facts));
    places = onto.arranged;
    exact = onto.exact;
    waiting = waiting;
  }

  pub drawn_numbered : Numbered fresh
  drawn_numbered = onto.numbered
