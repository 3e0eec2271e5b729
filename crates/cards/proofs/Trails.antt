-- Trails: one for each list of what is asked, one asking more at the end, and what holds on the way, whatever the kind of asking.
use Rattle.std.proofs.Common.{◌≡◌, ℕ, List, [], ◌∷◌, ◌++◌, map, sym, refl, ap, ◌∙◌, subst}
use Rattle.books.specs.Book.{Model}
use Rattle.checks.specs.Rows.{marked}
use Rattle.checks.specs.Tables.{places_in}
use Rattle.cards.specs.Moments.{Setting, Moment}
use Rattle.cards.specs.Cards.{setting_of}
use Rattle.cards.specs.Trails.{Made, Trail, Throughout, ByRule, after_all, OneTrail, Telling, RunKept}
use Rattle.cards.specs.declared.card.Card.{Card}

module _ {Ask Tell : Type 0} where
  made_is : (c d : Made Ask Tell) → c.asked ≡ d.asked → c.told ≡ d.told → c.after ≡ d.after → c ≡ d
  made_is c d e f g = λ i. record { asked = e i; told = f i; after = g i }

  pub after_more : (b : Moment) (calls : List (Made Ask Tell)) (c : Made Ask Tell) → after_all b (calls ++ c ∷ []) ≡ c.after
  after_more b [] c = refl
  after_more b (d ∷ rest) c = after_more d.after rest c

  module _ (Told : Setting → Moment → Ask → Tell → Moment → Type 0) where
    -- one asking more
    pub trail_more : (s : Setting) (b : Moment) (calls : List (Made Ask Tell)) (c : Made Ask Tell) → Trail Told s b calls
        → Told s (after_all b calls) c.asked c.told c.after → Trail Told s b (calls ++ c ∷ [])
    trail_more s b [] c w a = (a, tt)
    trail_more s b (d ∷ rest) c w a = (w.0, trail_more s d.after rest c w.1 a)

    module _ (telling : Telling Told) (s : Setting) where
      -- two trails of the same asking
      same_trail : (b : Moment) (xs ys : List (Made Ask Tell)) → map (λ c. c.asked) xs ≡ map (λ c. c.asked) ys → Trail Told s b xs → Trail Told s b ys → xs ≡ ys
      same_trail b [] [] e v w = refl
      same_trail b [] (d ∷ ys) e v w = cc
      same_trail b (c ∷ xs) [] e v w = cc
      same_trail b (c ∷ xs) (d ∷ ys) e v w =
          let first : c.asked ≡ d.asked = cc in
          let others : map (λ c. c.asked) xs ≡ map (λ c. c.asked) ys = cc in
          let w' = subst (λ (q : Ask). Told s b q d.told d.after) (sym first) w.0 in
          let one = telling.one s b c.asked c.told d.told c.after d.after v.0 w' in
          let same = same_trail c.after xs ys others v.1 (subst (λ (a : Moment). Trail Told s a ys) (sym one.1) w.1) in
          let heads = made_is c d first one.0 one.1 in cc

      some_trail : (b : Moment) (asked : List Ask) → (calls : List (Made Ask Tell)) × (map (λ c. c.asked) calls ≡ asked) × Trail Told s b calls
      some_trail b [] = ([], refl, tt)
      some_trail b (q ∷ rest) =
          let w = telling.some s b q in
          let t = some_trail w.1 rest in
          (record { asked = q; told = w.0; after = w.1 } ∷ t.0, ap (λ xs. q ∷ xs) t.1, (w.2, t.2))

      pub one_trail : (b : Moment) (asked : List Ask) → OneTrail Told s b asked
      one_trail b asked =
          let t = some_trail b asked in
          record { calls = t.0; asks = t.1; trail = t.2; only = λ ys e w. same_trail b t.0 ys (t.1 ∙ sym e) t.2 w }

    -- what each asking carries on holds on the way, and what is told is told by the rule
    module _ (Right : Setting → Moment → Ask → Tell → Type 0) (right : (s : Setting) (b : Moment) (q : Ask) (r : Tell) (a : Moment) → Told s b q r a → Right s b q r)
        (s : Setting) (Holds Fine : Moment → Type 0) (holds : (b : Moment) → Fine b → Holds b)
        (onward : (b : Moment) (q : Ask) (r : Tell) (a : Moment) → Told s b q r a → Fine b → Fine a) where
      throughout : (b : Moment) (calls : List (Made Ask Tell)) → Fine b → Trail Told s b calls → Throughout Holds b calls
      throughout b [] f w = holds b f
      throughout b (c ∷ rest) f w = (holds b f, throughout c.after rest (onward b c.asked c.told c.after w.0 f) w.1)

      by_rule : (b : Moment) (calls : List (Made Ask Tell)) → Trail Told s b calls → ByRule Right s b calls
      by_rule b [] w = tt
      by_rule b (c ∷ rest) w = (right s b c.asked c.told c.after w.0, by_rule c.after rest w.1)

      pub run_kept : (b : Moment) (calls : List (Made Ask Tell)) → Fine b → Trail Told s b calls → RunKept Right Holds s b calls
      run_kept b calls f w = record { kept = throughout b calls f w; granted = by_rule b calls w }

-- a card that keeps its plan beside a board that keeps its span keeps its setting
pub setting_stays : (m : Model) (span span' : ℕ) (c c' : Card) → span' ≡ span → c'.plan ≡ c.plan → setting_of m span' c' ≡ setting_of m span c
setting_stays m span span' c c' e f = λ i. record { book = m; span = e i; places = places_in (f i).count (f i).places; precedes = marked (f i).before }
