-- A timetable with weight 1 for every place gives the strata: no sum is cut off, since a place begins at its number at most.
use Rattle.std.proofs.Common.{◌≡◌, ℕ, zero, suc, ◌+◌, ◌-◌, ◌<◌, ◌≤◌, Bool, true, ◌⊎◌, List, Ok, Err, Result, refl, ap, ◌∙◌, inl, inr, ⊎_elim, arith}
use Rattle.std.proofs.lemmas.List.{get_or-replicate, length-replicate}
use Rattle.std.proofs.lemmas.Bool.{cases_lt, leb-true}
use Rattle.sheets.specs.declared.writing.TooShort.{TooShort}
use Rattle.timetables.specs.Measures.{StepCount, step_scale}
use Rattle.timetables.specs.Timetable.{sum, by_place, Timetable, Timetabled}
use Rattle.timetables.specs.Strata.{Strata, ones, Stratified}

module _ (size : ℕ) (precedes : ℕ → ℕ → Bool) (upward : (u v : ℕ) → precedes u v ≡ true → (u < v) × (v < size)) (small : size ≤ 256)
    (weight begin : ℕ → StepCount) (end : StepCount) (one : (v : ℕ) → v < size → (weight v).count ≡ 1) (t : Timetable step_scale size precedes weight begin end) where
  at_most : (v : ℕ) → v < size → ((u : ℕ) → u < v → (begin u).count ≤ u) → (begin v).count ≤ v
  at_most v h below =
      ⊎_elim
      (λ a. let lt = (upward a.0 v a.2).0 in omega (arith, ap (λ x. x.count) a.3, below a.0 lt, one a.0 a.1, lt))
      (λ a. omega (arith, ap (λ x. x.count) a.1))
      (t.begun v h).attained

  all_below : (n : ℕ) → n ≤ size → (v : ℕ) → v < n → (begin v).count ≤ v
  all_below zero le v h = absurd (omega arith)
  all_below (suc n) le v h =
      ⊎_elim (λ lt. all_below n (omega arith) v lt) (λ ge. at_most v (omega arith) (λ u k. all_below n (omega arith) u (omega arith))) (cases_lt v n)

  -- a sum is not cut off
  next : (v : ℕ) → v < size → (sum step_scale weight begin v).count ≡ (begin v).count + 1
  next v h = omega (arith, all_below size (omega arith) v h, one v h)

  climbs : (u v : ℕ) → precedes u v ≡ true → (begin u).count < (begin v).count
  climbs u v h = let up = upward u v h in omega (arith, leb-true _ _ (t.keeps u v h), next u (omega (arith, up)))

  low : (v : ℕ) → v < size → ((begin v).count ≡ 0) ⊎ ((u : ℕ) × (u < size) × (precedes u v ≡ true) × ((begin v).count ≡ (begin u).count + 1))
  low v h =
      ⊎_elim
      (λ a. inr (a.0, a.1, a.2, ap (λ x. x.count) a.3 ∙ next a.0 a.1))
      (λ a. inl (ap (λ x. x.count) a.1))
      (t.begun v h).attained

  below : (v : ℕ) → v < size → (begin v).count < end.count
  below v h = omega (arith, leb-true _ _ (t.ended.bound v h refl), next v h)

  -- from a place of a stratum down to one of a lower stratum
  down : (d k v : ℕ) → v < size → (begin v).count ≡ k + d → (w : ℕ) × (w < size) × ((begin w).count ≡ k)
  down zero k v h e = (v, h, omega arith)
  down (suc d) k v h e = ⊎_elim (λ z. absurd (omega arith)) (λ a. down d k a.0 a.1 (omega (arith, a.3))) (low v h)

  each : (k : ℕ) → k < end.count → (v : ℕ) × (v < size) × ((begin v).count ≡ k)
  each k lt =
      ⊎_elim
      (λ a. let e = ap (λ x. x.count) a.3 ∙ next a.0 a.1 in down ((begin a.0).count - k) k a.0 a.1 (omega (arith, e)))
      (λ a. absurd (omega (arith, ap (λ x. x.count) a.1)))
      t.ended.attained

  few : end.count ≤ size
  few =
      ⊎_elim
      (λ a. omega (arith, ap (λ x. x.count) a.3 ∙ next a.0 a.1, all_below size (omega arith) a.0 a.1, a.1))
      (λ a. omega (arith, ap (λ x. x.count) a.1))
      t.ended.attained

  pub strata_made : Strata size precedes (λ v. (begin v).count) end.count
  strata_made = record { climbs = climbs; low = low; below = below; each = each; few = few }

-- the weights are ones
one_each : (v : ℕ) → v < 256 → (by_place step_scale ones v).count ≡ 1
one_each v h = ap (λ x. x.count) (get_or-replicate 256 v (record { count = 1 }) step_scale.zero h)

pub stratified : (size : ℕ) (precedes : ℕ → ℕ → Bool) → ((u v : ℕ) → precedes u v ≡ true → (u < v) × (v < size)) → size ≤ 256 → (before after : List StepCount) (r : Result StepCount TooShort) → Timetabled step_scale size precedes ones before after r → Stratified size precedes before after r
stratified size precedes upward small before after (Ok end) t =
    (t, strata_made size precedes upward small (by_place step_scale ones) (by_place step_scale after) end (λ v h. one_each v (omega arith)) t.table)
stratified size precedes upward small before after (Err fault) t =
    (t.needed, ⊎_elim (λ h. absurd (omega (arith, h, length-replicate {A = StepCount} 256 (record { count = 1 })))) (λ h. h) t.short, t.same)
