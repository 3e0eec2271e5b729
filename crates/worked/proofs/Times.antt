-- Timetables, shown by tests.
use Rattle.std.proofs.Common.{◌≡◌, ℕ, Bool, true, not, ◌&&◌, ◌||◌, ltb, leb, ◌⊎◌, List, [], length, get_or, Ok, refl, inl, inr, arith, rules}
use Rattle.std.proofs.lemmas.Bool.{and_parts, or_cases, leb-true}
use Rattle.std.proofs.lemmas.Bool.Decides.{Decides-or, Decides-not, nat_tests}
use Rattle.timetables.specs.Scale.{Scale, Laws}
use Rattle.timetables.specs.Measures.{StepCount, step_scale, second_scale}
use Rattle.timetables.specs.Timetable.{Greatest, Written, sum, by_place}
use Rattle.timetables.specs.Strata.{Strata, ones, stratum_in}
use Rattle.timetables.proofs.Tables.{written_made}
use Rattle.timetables.proofs.Layers.{stratified}
use Rattle.worked.specs.Plans.{preceding}
use Rattle.worked.proofs.Tests.{below, every, exists, decides_below, decides_exists, decides_true}
use Rattle.worked.proofs.Places.{upward_shown}

pub step_laws : Laws step_scale
step_laws = search (rules, arith, nat_tests)

pub second_laws : Laws second_scale
second_laws = search (rules, arith, nat_tests)

module _ {M : Type 0} (s : Scale M) where
  -- a test of two values that are the same
  abbrev equal : M → M → Bool
  equal x y = s.within x y && s.within y x

  -- whether x is the greatest of the values of the picked numbers below n
  abbrev greatest : (ℕ → Bool) → (ℕ → M) → ℕ → M → Bool
  greatest picked value n x =
      below (λ u. not (picked u) || s.within (value u) x) n
      && (exists (λ u. picked u && equal x (value u)) n || (below (λ u. not (picked u)) n && equal x s.zero))

  module _ (laws : Laws s) where
    equal_shown : (x y : M) → equal x y ≡ true → x ≡ y
    equal_shown x y e = let t = and_parts _ _ e in laws.antisymmetric x y t.0 t.1

    greatest_shown : (picked : ℕ → Bool) (value : ℕ → M) (n : ℕ) (x : M) → greatest picked value n x ≡ true → Greatest s picked value n x
    greatest_shown picked value n x e =
        let t = and_parts _ _ e in
        let bounds = (decides_below (λ u. not (picked u) || s.within (value u) x) (λ u. (picked u ≡ true → ⊥) ⊎ (s.within (value u) x ≡ true))
        (λ u. Decides-or _ _ (Decides-not _ (decides_true (picked u))) (decides_true (s.within (value u) x))) n).0 t.0 in
        record {
          bound = λ u l h. elim (bounds u l) [ inl f ↦ absurd (f h) | inr w ↦ w ];
          attained = elim (or_cases _ _ t.1) [
            | inl a ↦ (let w = (decides_exists (λ u. picked u && equal x (value u)) n).0 a in
                let r = and_parts _ _ w.2 in inl (w.0, w.1, r.0, equal_shown x (value w.0) r.1))
            | inr a ↦ (let r = and_parts _ _ a in
                inr ((decides_below (λ u. not (picked u)) (λ u. picked u ≡ true → ⊥) (λ u. Decides-not _ (decides_true (picked u))) n).0 r.0, equal_shown x s.zero r.1))
          ];
        }

    module _ (rows : List (List ℕ)) (weights begins : List M) (end : M) where
      abbrev total : ℕ → M
      total = sum s (by_place s weights) (by_place s begins)

      -- whether these are the begins and the end of as many places as there are rows
      abbrev pub timetables : Bool
      timetables =
          (below (λ v. every (λ x. ltb x v) (get_or rows v [])) (length rows) && (leb (length rows) (length weights) && leb (length rows) (length begins)))
          && (below (λ v. greatest (λ u. preceding rows u v) total v (by_place s begins v)) (length rows) && greatest (λ _. true) total (length rows) end)

      pub written_shown : timetables ≡ true → Written s (length rows) (preceding rows) weights begins begins end
      written_shown e =
          let t = and_parts _ _ e in
          let r = and_parts _ _ t.0 in
          let k = and_parts _ _ r.1 in
          let f = and_parts _ _ t.1 in
          let begun = (decides_below (λ v. greatest (λ u. preceding rows u v) total v (by_place s begins v)) _ (λ v. decides_true _) (length rows)).0 f.0 in
          written_made laws (preceding rows) weights (length rows) (upward_shown rows r.0) begins begins end (length rows) refl (leb-true _ _ k.0) (leb-true _ _ k.1)
          (record {
            begun = λ v l. greatest_shown (λ u. preceding rows u v) total v (by_place s begins v) (begun v l);
            rest = λ k d l. refl;
            ended = greatest_shown (λ _. true) total (length rows) end f.1;
          })

-- the strata of places, by their timetable with weight 1
pub strata_shown : (rows : List (List ℕ)) (begins : List StepCount) (end : StepCount)
    → (below (λ v. every (λ x. ltb x v) (get_or rows v [])) (length rows) && leb (length rows) 256) ≡ true
    → Written step_scale (length rows) (preceding rows) ones begins begins end → Strata (length rows) (preceding rows) (stratum_in begins) end.count
strata_shown rows begins end e t =
    let r = and_parts _ _ e in
    (stratified (length rows) (preceding rows) (upward_shown rows r.0) (leb-true _ _ r.1) begins begins (Ok end) t).1
