-- Trails: what is asked in turn from a moment on, what is told, and the moment that each asking leaves, whatever the kind of asking.
use Rattle.std.specs.Prelude.{◌≡◌, List, [], ◌∷◌, map}
use Rattle.cards.specs.Moments.{Setting, Moment}

-- what was asked, what was told, and the moment after it
pub record Made (Ask Tell : Type 0) : Type 0 where
  pub asked : Ask
  pub told : Tell
  pub after : Moment

module _ {Ask Tell : Type 0} where
  -- every moment on the way is such, the first and the last included
  abbrev pub Throughout : (Moment → Type 0) → Moment → List (Made Ask Tell) → Type 0
  Throughout P b [] = P b
  Throughout P b (c ∷ rest) = P b × Throughout P c.after rest

  -- the moment after the last asking
  abbrev pub after_all : Moment → List (Made Ask Tell) → Moment
  after_all b [] = b
  after_all b (c ∷ rest) = after_all c.after rest

  -- a kind of asking: what is told upon an asking, and the moment after it
  module _ (Told : Setting → Moment → Ask → Tell → Moment → Type 0) where
    -- one asking after the other from a moment on, each upon the moment that the last one left
    abbrev pub Trail : Setting → Moment → List (Made Ask Tell) → Type 0
    Trail s b [] = Unit {0}
    Trail s b (c ∷ rest) = Told s b c.asked c.told c.after × Trail s c.after rest

    -- whatever is asked, in whatever order, leaves one trail and no other
    pub record OneTrail (s : Setting) (b : Moment) (asked : List Ask) : Type 0 where
      pub calls : List (Made Ask Tell)
      pub asks : map (λ c. c.asked) calls ≡ asked
      pub trail : Trail s b calls
      pub only : (calls' : List (Made Ask Tell)) → map (λ c. c.asked) calls' ≡ asked → Trail s b calls' → calls ≡ calls'

    -- every moment and asking is told something and has a moment after it, and no two
    pub record Telling : Type 0 where
      pub some : (s : Setting) (b : Moment) (q : Ask) → (r : Tell) × (a : Moment) × Told s b q r a
      pub one : (s : Setting) (b : Moment) (q : Ask) (r r' : Tell) (a a' : Moment) → Told s b q r a → Told s b q r' a' → (r ≡ r') × (a ≡ a')

  -- the rule of a moment: what is told rightly
  module _ (Right : Setting → Moment → Ask → Tell → Type 0) where
    -- each asking is told by the rule of its moment
    abbrev pub ByRule : Setting → Moment → List (Made Ask Tell) → Type 0
    ByRule s b [] = Unit {0}
    ByRule s b (c ∷ rest) = Right s b c.asked c.told × ByRule s c.after rest

    -- what holds of a run from a moment on: every moment is such, and each asking is told by the rule
    pub record RunKept (Holds : Moment → Type 0) (s : Setting) (b : Moment) (calls : List (Made Ask Tell)) : Type 0 where
      pub kept : Throughout Holds b calls
      pub granted : ByRule s b calls
