-- What holds of the timetables of every card.
use Rattle.std.specs.Prelude.{◌≡◌, ℕ, ◌<◌, ◌≤◌, true, List, length, Ok, Result}
use Rattle.sheets.specs.declared.writing.TooShort.{TooShort}
use Rattle.cards.specs.Cards.{size_of, precedes_of}
use Rattle.cards.specs.declared.card.Card.{Card}
use Rattle.timetables.specs.Scale.{Scale}
use Rattle.timetables.specs.Timetable.{Greatest, sum, Keeps, by_place, Timetabled}

module _ {M : Type 0} (s : Scale M) where
  -- begins of the places of a card that keep the precedences, no list that keeps them beginning any place earlier, and their end
  pub record Timed (c : Card) (weights begins : List M) (end : M) : Type 0 where
    pub keeps : Keeps s (precedes_of c) (by_place s weights) (by_place s begins)
    pub least : (others : ℕ → M) → Keeps s (precedes_of c) (by_place s weights) others → (v : ℕ) → v < size_of c → s.within (by_place s begins v) (others v) ≡ true
    pub ended : Greatest s (λ _. true) (sum s (by_place s weights) (by_place s begins)) (size_of c) end

  -- from every card, whatever the states of its places, and for all weights a timetable can be written where there is room for it;
  -- and each one that is written is such
  pub record TimesKept (c : Card) (weights before : List M) : Type 0 where
    pub some : (after : List M) × (end : M) × Timetabled s (size_of c) (precedes_of c) weights before after (Ok end)
    pub each : (after : List M) (r : Result M TooShort) → Timetabled s (size_of c) (precedes_of c) weights before after r
        → (end : M) × (r ≡ Ok end) × Timed c weights after end

  abbrev pub EveryTimetable : Type 0
  EveryTimetable = (c : Card) (weights before : List M) → size_of c ≤ length weights → size_of c ≤ length before → TimesKept c weights before
