-- The recast of a plan that is laid out, shown by a test.
use Rattle.std.proofs.Common.{◌≡◌, ℕ, ◌<◌, Bool, true, not, ◌&&◌, ◌||◌, eqb, ltb, ◌⊎◌, List, [], ◌∷◌, length, get_or, refl, inl, inr}
use Rattle.std.specs.List.{AllByRecursion}
use Rattle.std.proofs.ByRecursion.{all-has}
use Rattle.std.proofs.lemmas.Bool.{and_parts, eqb-true, ltb-true}
use Rattle.std.proofs.lemmas.Bool.Decides.{Decides-eqb, Decides-ltb, Decides-not, Decides-or}
use Rattle.books.specs.Book.{Model}
use Rattle.books.specs.Listed.{listed}
use Rattle.plans.specs.Plans.{Ascending}
use Rattle.plans.specs.Places.{Places, Row, Lays}
use Rattle.task_sheets.specs.Content.{Task}
use Rattle.checks.specs.declared.arrangement.Place.{Place}
use Rattle.recasts.specs.Layers.{restaged}
use Rattle.recasts.specs.Recasts.{RecastOf}
use Rattle.timetables.specs.Strata.{stratum_in}
use Rattle.worked.specs.Plans.{placed, steps, Laid}
use Rattle.worked.proofs.Tests.{below, every, exists, decides_below, decides_every, decides_exists, decides_true, has_shown}

-- whether each level has steps, in ascending order
abbrev rises : List ℕ → Bool
rises [] = true
rises (x ∷ xs) = every (λ y. ltb x y) xs && rises xs

abbrev rising : List (List ℕ) → Bool
rising [] = true
rising (xs ∷ rest) = (rises xs && ltb 0 (length xs)) && rising rest

rises_shown : (xs : List ℕ) → rises xs ≡ true → Ascending xs
rises_shown [] e = tt
rises_shown (x ∷ xs) e = let t = and_parts _ _ e in ((decides_every (λ y. ltb x y) (λ y. x < y) (λ y. Decides-ltb x y) xs).0 t.0, rises_shown xs t.1)

ascending_shown : (levels : List (List ℕ)) → rising levels ≡ true → AllByRecursion Ascending levels
ascending_shown [] e = tt
ascending_shown (xs ∷ rest) e = let t = and_parts _ _ e in (rises_shown xs (and_parts _ _ t.0).0, ascending_shown rest t.1)

some_shown : (levels : List (List ℕ)) → rising levels ≡ true → AllByRecursion (λ xs. 0 < length xs) levels
some_shown [] e = tt
some_shown (xs ∷ rest) e = let t = and_parts _ _ e in (ltb-true _ _ (and_parts _ _ t.0).1, some_shown rest t.1)

module _ (o : Places) (rank : ℕ → ℕ) where
  -- whether xs has the steps of the places of rank i, and no others
  abbrev row : ℕ → List ℕ → Bool
  row i xs = below (λ u. not (eqb (rank u) i) || listed xs (o.step u)) o.size && every (λ a. exists (λ u. eqb (rank u) i && eqb (o.step u) a) o.size) xs

  row_shown : (i : ℕ) (xs : List ℕ) → row i xs ≡ true → Row o rank i xs
  row_shown i xs e =
      let t = and_parts _ _ e in
      let has = (decides_below (λ u. not (eqb (rank u) i) || listed xs (o.step u)) (λ u. (rank u ≡ i → ⊥) ⊎ (listed xs (o.step u) ≡ true))
      (λ u. Decides-or _ _ (Decides-not _ (Decides-eqb (rank u) i)) (decides_true (listed xs (o.step u)))) o.size).0 t.0 in
      let each = (decides_every (λ a. exists (λ u. eqb (rank u) i && eqb (o.step u) a) o.size) (λ a. (u : ℕ) × (u < o.size) × ((eqb (rank u) i && eqb (o.step u) a) ≡ true))
      (λ a. decides_exists (λ u. eqb (rank u) i && eqb (o.step u) a) o.size) xs).0 t.1 in
      record {
        holds = λ u l is. elim (has u l) [ inl n ↦ absurd (n is) | inr h ↦ has_shown xs (o.step u) h ];
        only = λ a h. let w = all-has (λ a. (u : ℕ) × (u < o.size) × ((eqb (rank u) i && eqb (o.step u) a) ≡ true)) xs a each h in
            let r = and_parts _ _ w.2 in (w.0, w.1, eqb-true _ _ r.0, eqb-true _ _ r.1);
      }

  -- whether the levels are the places by rank
  abbrev pub by_rank : List (List ℕ) → Bool
  by_rank levels = below (λ u. ltb (rank u) (length levels)) o.size && below (λ i. row i (get_or levels i [])) (length levels)

  pub lays_shown : (levels : List (List ℕ)) → by_rank levels ≡ true → Lays o rank levels
  lays_shown levels e =
      let t = and_parts _ _ e in
      let rows = (decides_below (λ i. row i (get_or levels i [])) (λ i. row i (get_or levels i []) ≡ true) (λ i. decides_true (row i (get_or levels i []))) (length levels)).0 t.1 in
      record {
        within = (decides_below (λ u. ltb (rank u) (length levels)) (λ u. rank u < length levels) (λ u. Decides-ltb (rank u) (length levels)) o.size).0 t.0;
        rows = λ i l. row_shown i (get_or levels i []) (rows i l);
      }

pub recast_shown : (m : Model) (t : Task) (places : List Place) (rows : List (List ℕ)) (stratum : List ℕ) (count : ℕ) → Laid m t places rows stratum count
    → (levels : List (List ℕ)) → (by_rank (placed places) (stratum_in (steps stratum)) levels && rising levels) ≡ true → RecastOf m t (restaged t levels)
recast_shown m t places rows stratum count laid levels e =
    let s = and_parts _ _ e in
    record {
      facts = refl;
      steps = refl;
      start = refl;
      goal = refl;
      strata = record {
        places = placed places;
        stratum = stratum_in (steps stratum);
        arranged = laid.arranged;
        climbs = λ u v k l p. laid.strata.climbs u v ((laid.exact u v k l).1 p);
        low = λ v l. elim (laid.strata.low v l) [ inl z ↦ inl z | inr a ↦ inr (a.0, a.1, (laid.exact a.0 v a.1 l).0 a.2, a.3) ];
        lays = lays_shown (placed places) (stratum_in (steps stratum)) levels s.0;
        ascending = ascending_shown levels s.1;
        some = some_shown levels s.1;
      };
    }
