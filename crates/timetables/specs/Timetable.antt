-- Timetables of a number of places, some of which precede others, in any measure.
use Rattle.std.specs.Prelude.{◌≡◌, ℕ, ◌<◌, ◌≤◌, Bool, true, cond, ◌⊎◌, List, length, Ok, Err, Result, ◌≢◌, slice_index_or}
use Rattle.sheets.specs.declared.writing.TooShort.{TooShort}
use Rattle.timetables.specs.Scale.{Scale}

module _ {M : Type 0} (s : Scale M) where
  -- the greater of two values
  abbrev pub greater_of : M → M → M
  greater_of x y = cond (s.within x y) y x

  -- x is the greatest of the values of the picked numbers below n, or zero where none is picked
  pub record Greatest (picked : ℕ → Bool) (value : ℕ → M) (n : ℕ) (x : M) : Type 0 where
    pub bound : (u : ℕ) → u < n → picked u ≡ true → s.within (value u) x ≡ true
    pub attained : ((u : ℕ) × (u < n) × (picked u ≡ true) × (x ≡ value u)) ⊎ (((u : ℕ) → u < n → picked u ≢ true) × (x ≡ s.zero))

  -- the sum of a place's begin and weight
  abbrev pub sum : (ℕ → M) → (ℕ → M) → ℕ → M
  sum weight begin u = s.plus (begin u) (weight u)

  -- begins keep the precedences: each predecessor's begin plus weight is at most the begin after it
  abbrev pub Keeps : (ℕ → ℕ → Bool) → (ℕ → M) → (ℕ → M) → Type 0
  Keeps precedes weight begin = (u v : ℕ) → precedes u v ≡ true → s.within (sum weight begin u) (begin v) ≡ true

  -- the least timetable of so many places, and its end
  pub record Timetable (size : ℕ) (precedes : ℕ → ℕ → Bool) (weight begin : ℕ → M) (end : M) : Type 0 where
    pub keeps : Keeps precedes weight begin
    -- whichever begins keep the precedences, each place begins there at the same value or a greater one
    pub least : (others : ℕ → M) → Keeps precedes weight others → (v : ℕ) → v < size → s.within (begin v) (others v) ≡ true
    -- a place without predecessors begins at zero, any other at the greatest sum of a predecessor's begin and weight
    pub begun : (v : ℕ) → v < size → Greatest (λ u. precedes u v) (sum weight begin) size (begin v)
    -- the end is the greatest sum of a place's begin and weight, zero for no places
    pub ended : Greatest (λ _. true) (sum weight begin) size end
    -- whichever begins keep the precedences, a value that bounds every sum there is the same end or a greater one
    pub soonest : (others : ℕ → M) → Keeps precedes weight others → (last : M) → ((v : ℕ) → v < size → s.within (sum weight others v) last ≡ true) → s.within end last ≡ true

  -- places and their weights have one timetable
  abbrev pub OnlyOne : Type 0
  OnlyOne =
      (size : ℕ) (precedes : ℕ → ℕ → Bool) (weight begin others : ℕ → M) (end other : M)
      → Timetable size precedes weight begin end → Timetable size precedes weight others other
      → ((v : ℕ) → v < size → begin v ≡ others v) × (end ≡ other)

  -- the value of each place in a list
  abbrev pub by_place : List M → ℕ → M
  by_place xs v = slice_index_or xs v s.zero

  -- the timetable is written: there is an entry for each place in both lists, and the entries past the last place are as before
  pub record Written (size : ℕ) (precedes : ℕ → ℕ → Bool) (weights before after : List M) (end : M) : Type 0 where
    pub weighed : size ≤ length weights
    pub room : size ≤ length before
    pub table : Timetable size precedes (by_place weights) (by_place after) end
    pub same : (k : ℕ) (d : M) → size ≤ k → slice_index_or after k d ≡ slice_index_or before k d

  -- a list is too short: the number of places is named, and nothing is written
  pub record Refused (size : ℕ) (weights before after : List M) (fault : TooShort) : Type 0 where
    pub needed : fault.needed ≡ size
    pub short : (length weights < size) ⊎ (length before < size)
    pub same : after ≡ before

  -- the answer to a call for a timetable, from the weights by place and the begins before and after it
  abbrev pub Timetabled : ℕ → (ℕ → ℕ → Bool) → List M → List M → List M → Result M TooShort → Type 0
  Timetabled size precedes weights before after (Ok end) = Written size precedes weights before after end
  Timetabled size precedes weights before after (Err fault) = Refused size weights before after fault
