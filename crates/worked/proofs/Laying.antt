-- The places and the strata of a plan that is accepted, shown by two tests.
use Rattle.std.proofs.Common.{◌≡◌, ℕ, Bool, true, ◌&&◌, eqb, ltb, leb, List, [], map, length, get_or}
use Rattle.std.proofs.lemmas.Bool.{and_parts, eqb-true}
use Rattle.books.specs.Book.{Model, Lawful}
use Rattle.books.specs.Listed.{listed}
use Rattle.task_sheets.specs.Content.{Task}
use Rattle.checks.specs.declared.arrangement.Place.{Place}
use Rattle.timetables.specs.Measures.{Seconds, step_scale, second_scale}
use Rattle.timetables.specs.Strata.{ones}
use Rattle.worked.specs.Plans.{placed, preceding, steps, seconds, Laid, Timed}
use Rattle.worked.proofs.Tests.{below, every, recognizes}
use Rattle.worked.proofs.Sets.{alike}
use Rattle.worked.proofs.Checks.{matches, final, accepted_shown}
use Rattle.worked.proofs.Places.{arranges_from, precedes, arranged_shown, exact_shown}
use Rattle.worked.proofs.Times.{step_laws, second_laws, timetables, written_shown, strata_shown}

module _ (m : Model) (law : Lawful m) (t : Task) (places : List Place) (orders rows : List (List ℕ)) (stratum : List ℕ) (count : ℕ) where
  -- the plan is accepted, and these orders of its levels stand at the places
  abbrev pub lays : Bool
  lays =
      (matches m law t && (recognizes m (listed t.start) t.levels orders && every (final m law t) t.goal))
      && (arranges_from m (placed places) 0 0 t.levels orders
      && below (λ u. below (λ v. alike (preceding rows u v) (precedes m (placed places) u v)) (length places)) (length places))

  -- a row for each place, and the strata
  abbrev pub layers : Bool
  layers =
      (eqb (length rows) (length places) && (below (λ v. every (λ x. ltb x v) (get_or rows v [])) (length rows) && leb (length rows) 256))
      && timetables step_scale step_laws rows ones (steps stratum) (record { count = count })

  pub laid_shown : lays ≡ true → layers ≡ true → Laid m t places rows stratum count
  laid_shown e f =
      let a = and_parts _ _ e in
      let b = and_parts _ _ a.1 in
      let c = and_parts _ _ f in
      let d = and_parts _ _ c.0 in
      let size = eqb-true (length rows) (length places) d.0 in
      let written = written_shown step_scale step_laws rows ones (steps stratum) (record { count = count }) c.1 in
      record {
        accepted = accepted_shown m law t orders a.0;
        arranged = arranged_shown m (placed places) law 0 0 t.levels orders b.0;
        exact = exact_shown m (placed places) law (preceding rows) b.1;
        table = rw (← size) written.table;
        strata = rw (← size) (strata_shown rows (steps stratum) (record { count = count }) d.1 written);
      }

module _ (m : Model) (places : List Place) (rows : List (List ℕ)) (begins : List ℕ) (end : ℕ) where
  -- the weights of the places
  abbrev weights : List Seconds
  weights = seconds (map (λ x. m.seconds x.step) places)

  pub timed_shown : (eqb (length rows) (length places) && timetables second_scale second_laws rows weights (seconds begins) (record { count = end })) ≡ true → Timed m places rows begins end
  timed_shown e =
      let a = and_parts _ _ e in
      rw (← eqb-true (length rows) (length places) a.0) (written_shown second_scale second_laws rows weights (seconds begins) (record { count = end }) a.1).table
