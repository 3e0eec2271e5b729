-- Moments of a run: the state of every place and the facts on the board, and what the places, the book and the board fix between them.
use Rattle.std.specs.Prelude.{◌≡◌, ℕ, ◌<◌, Bool, true, false, cond, not, ◌&&◌, ◌||◌, ◌==◌, nat_lt}
use Rattle.books.specs.Book.{Model, Facts}
use Rattle.plans.specs.Places.{Places}
use Rattle.cards.specs.States.{finished as is_finished}
use Rattle.cards.specs.declared.state.State.{State}

-- what no call changes: the book, the board's span, the places, and which of them precede which
pub record Setting : Type 0 where
  pub book : Model
  pub span : ℕ
  pub places : Places
  pub precedes : ℕ → ℕ → Bool

-- the state of every place, and the facts on the board
pub record Moment : Type 0 where
  pub state : ℕ → State
  pub board : Facts

-- the places that are finished
abbrev pub done : Moment → ℕ → Bool
done b u = is_finished (b.state u)

-- the states with another one at place p
abbrev pub turned : (ℕ → State) → ℕ → State → ℕ → State
turned states p x u = cond (u == p) x (states u)

-- size places, of which some precede others and some are finished
module _ (size : ℕ) (precedes : ℕ → ℕ → Bool) (finished : ℕ → Bool) where
  -- every place that precedes p is finished
  abbrev pub Cleared : ℕ → Type 0
  Cleared p = (u : ℕ) → u < size → precedes u p ≡ true → finished u ≡ true

  -- u is the lowest of the unfinished places that precede p
  pub record Lowest (p u : ℕ) : Type 0 where
    pub there : u < size
    pub before : precedes u p ≡ true
    pub unfinished : finished u ≡ false
    pub lowest : (v : ℕ) → v < u → precedes v p ≡ true → finished v ≡ true

-- the facts on the board once the step of place p is done there: its deletes are cleared, then its adds are put, below the span
abbrev pub worked : Setting → Facts → ℕ → Facts
worked s board p q =
    (board q && not (s.book.deletes (s.places.step p) q)) || (s.book.adds (s.places.step p) q && nat_lt q s.span)
