-- The timetables that a page holds are those that are to be shown.
use Rattle.std.proofs.Common.{◌≡◌, ℕ, ◌<◌, true, List, get_or, Ok, Result, ap, subst, arith}
use Rattle.std.proofs.lemmas.List.{get_or-replicate}
use Rattle.std.proofs.lemmas.Bool.{and_parts, ltb-true}
use Rattle.sheets.specs.declared.writing.TooShort.{TooShort}
use Rattle.books.specs.Book.{Model}
use Rattle.checks.specs.Rows.{marked}
use Rattle.checks.specs.Tables.{blank}
use Rattle.checks.specs.declared.arrangement.Arrangement.{Arrangement}
use Rattle.timetables.specs.Measures.{StepCount, Seconds, step_scale, second_scale}
use Rattle.timetables.specs.Timetable.{by_place, Timetable, Timetabled}
use Rattle.timetables.specs.Strata.{Strata, stratum_in, ones, Stratified}
use Rattle.listings.proofs.Times.{renamed}

module _ (m : Model) (a : Arrangement) where
  pub inside : (u v : ℕ) → marked a.before u v ≡ true → (u < a.count) × (v < a.count)
  inside u v h =
      let parts = and_parts _ _ (a.upward u v h) in
      let below = ltb-true u v parts.0 in
      let last = ltb-true v a.count parts.1 in
      (omega arith, last)

  one_each : (v : ℕ) → v < a.count → by_place step_scale ones v ≡ record { count = 1 }
  one_each v h = get_or-replicate 256 v (record { count = 1 }) step_scale.zero (let few = a.few in omega arith)

  pub layered : (before stratum : List StepCount) (r : Result StepCount TooShort) (height : StepCount)
      → r ≡ Ok height → Stratified a.count (marked a.before) before stratum r
      → Timetable step_scale a.count (marked a.before) (λ v. record { count = 1 }) (by_place step_scale stratum) height
  layered before stratum r height e t =
      renamed step_scale a.count (marked a.before) (marked a.before) (λ u v h. (inside u v h).0) (λ u v h. h) (λ u v h. h)
      (by_place step_scale ones) (λ v. record { count = 1 }) one_each (by_place step_scale stratum) height
      (subst (λ q. Stratified a.count (marked a.before) before stratum q) e t).0.table

  pub layers : (before stratum : List StepCount) (r : Result StepCount TooShort) (height : StepCount)
      → r ≡ Ok height → Stratified a.count (marked a.before) before stratum r → Strata a.count (marked a.before) (stratum_in stratum) height.count
  layers before stratum r height e t = (subst (λ q. Stratified a.count (marked a.before) before stratum q) e t).1

  pub timed : (weights before begins : List Seconds) (r : Result Seconds TooShort) (end : Seconds)
      → ((v : ℕ) → v < a.count → (by_place second_scale weights v).count ≡ m.seconds (get_or a.places v blank).step)
      → r ≡ Ok end → Timetabled second_scale a.count (marked a.before) weights before begins r
      → Timetable second_scale a.count (marked a.before) (λ v. record { count = m.seconds (get_or a.places v blank).step }) (by_place second_scale begins) end
  timed weights before begins r end w e t =
      renamed second_scale a.count (marked a.before) (marked a.before) (λ u v h. (inside u v h).0) (λ u v h. h) (λ u v h. h)
      (by_place second_scale weights) (λ v. record { count = m.seconds (get_or a.places v blank).step })
      (λ v h. let mk : ℕ → Seconds = λ n. record { count = n } in ap mk (w v h)) (by_place second_scale begins) end
      (subst (λ q. Timetabled second_scale a.count (marked a.before) weights before begins q) e t).table
