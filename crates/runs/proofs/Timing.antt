-- Every card has a timetable for all weights, and each that is written keeps the precedences and is least.
use Rattle.std.proofs.Common.{◌≡◌, ℕ, zero, suc, ◌<◌, ◌≤◌, Bool, cond, List, length, set, Ok, Err, Result, refl, ◌∙◌, subst, ⊎_elim, add-one, arith, length-set}
use Rattle.sheets.specs.declared.writing.TooShort.{TooShort}
use Rattle.cards.specs.Cards.{size_of, precedes_of}
use Rattle.cards.specs.declared.card.Card.{Card}
use Rattle.timetables.specs.Scale.{Scale, Laws}
use Rattle.timetables.specs.Timetable.{greater_of, Greatest, sum, by_place, Timetabled}
use Rattle.timetables.proofs.Greatests.{greatest_none, greatest_turn}
use Rattle.timetables.proofs.Tables.{SoFar, so_far_none, so_far_more, written_made}
use Rattle.timetables.proofs.Upward.{upward}
use Rattle.runs.specs.Times.{Timed, EveryTimetable}

module _ {M : Type 0} {s : Scale M} (laws : Laws s) where
  some_greatest : (picked : ℕ → Bool) (value : ℕ → M) (n : ℕ) → (x : M) × Greatest s picked value n x
  some_greatest picked value zero = (s.zero, greatest_none laws picked value)
  some_greatest picked value (suc n) =
      let w = some_greatest picked value n in
      let x = cond (picked n) (greater_of s w.0 (value n)) w.0 in
      (x, subst (λ (k : ℕ). Greatest s picked value k x) (add-one n) (greatest_turn laws picked value n w.0 x refl w.1))

  module _ (precedes : ℕ → ℕ → Bool) (weights before : List M) where
    some_so_far : (n : ℕ) → n ≤ length before → (begins : List M) × (end : M) × SoFar s precedes weights before begins n end × (length begins ≡ length before)
    some_so_far zero h = (before, s.zero, so_far_none laws precedes weights before, refl)
    some_so_far (suc n) h =
        let w = some_so_far n (omega arith) in
        let x = some_greatest (λ u. precedes u n) (sum s (by_place s weights) (by_place s w.0)) n in
        let begins = set w.0 n x.0 in
        let y = sum s (by_place s weights) (by_place s begins) n in
        let end = greater_of s w.1 y in
        let room : n < length w.0 = omega (arith, w.3) in (
          begins,
          end,
          subst (λ (k : ℕ). SoFar s precedes weights before begins k end) (add-one n) (so_far_more laws precedes weights before w.0 n w.1 x.0 y end room refl refl x.1 w.2),
          length-set w.0 n x.0 ∙ w.3,
        )

  module _ (c : Card) (weights before : List M) (hw : size_of c ≤ length weights) (hb : size_of c ≤ length before) where
    some_table : (after : List M) × (end : M) × Timetabled s (size_of c) (precedes_of c) weights before after (Ok end)
    some_table =
        let w = some_so_far (precedes_of c) weights before (size_of c) hb in
        (w.0, w.1, written_made laws (precedes_of c) weights (size_of c) (upward c) before w.0 w.1 (size_of c) refl hw hb w.2)

    each_table : (after : List M) (r : Result M TooShort) → Timetabled s (size_of c) (precedes_of c) weights before after r
        → (end : M) × (r ≡ Ok end) × Timed s c weights after end
    each_table after (Ok end) w = (end, refl, record { keeps = w.table.keeps; least = w.table.least; ended = w.table.ended })
    each_table after (Err fault) w = absurd (⊎_elim (λ h. omega arith) (λ h. omega arith) w.short)

  pub every_timetable : EveryTimetable s
  every_timetable c weights before hw hb = record { some = some_table c weights before hw hb; each = each_table c weights before hw hb }
