-- The strata of a card that has the places of an accepted plan are the recast of its task.
use Rattle.std.proofs.Common.{◌≡◌, ℕ, zero, suc, ◌<◌, true, false, ◌&&◌, eqb, ltb, List, [], length, get_or, Ok, Result, sym, refl, ap, ◌∙◌, subst, inl, inr, arith}
use Rattle.std.specs.List.{ContainsAt as Has, AllByRecursion}
use Rattle.std.proofs.ByRecursion.{All-get_or, All-from_get_or, has_get_or}
use Rattle.std.proofs.lemmas.Bool.{both_ways, and_from, and_parts, or_cases, or_left, or_right, eq-eqb, eqb-true, lt-ltb, cases_lt}
use Rattle.books.specs.Book.{Facts, Model, Lawful}
use Rattle.books.specs.Listed.{listed, members}
use Rattle.books.proofs.Members.{listed_members}
use Rattle.sheets.specs.declared.writing.TooShort.{TooShort}
use Rattle.book_sheets.proofs.Ascents.{listed_says}
use Rattle.book_sheets.proofs.Listing.{members_ascend, in_set}
use Rattle.task_sheets.specs.Content.{Task, LawfulLevel, LawfulTask}
use Rattle.task_sheets.proofs.Laws.{one_sheet_each}
use Rattle.plans.specs.Plans as plans
use Rattle.plans.specs.Places.{Places, Row}
use Rattle.plans.specs.Laws.{Climbs}
use Rattle.plans.specs.Recasting.{Low, StrataOf}
use Rattle.plans.proofs.Arranging.{laying}
use Rattle.plans.proofs.Recasting.{one_recast, recasting}
use Rattle.checks.specs.Checked.{Checked}
use Rattle.checks.specs.Tables.{places_in}
use Rattle.checks.proofs.Passing.{ascending}
use Rattle.cards.specs.Cards.{size_of, precedes_of}
use Rattle.cards.specs.declared.card.Card.{Card}
use Rattle.timetables.specs.Strata.{Strata, stratum_in}
use Rattle.timetables.specs.Measures.{StepCount}
use Rattle.recasts.specs.Layers.{steps_at, step_in, strata_in, restaged}
use Rattle.recasts.specs.Recasts.{Good, CardOf, SheetWritten, RecastWritten}
use Rattle.recasts.proofs.Rows.{length_rows, get_d_rows, total_few}

-- the steps of a stratum are those of its places
module _ (step stratum : ℕ → ℕ) where
  pub steps_hold : (k n u : ℕ) → u < n → stratum u ≡ k → steps_at step stratum k n (step u) ≡ true
  steps_hold k zero u l e = absurd (omega arith)
  steps_hold k (suc n) u l e =
      elim (cases_lt u n) [
        | inl h ↦ or_left (steps_at step stratum k n (step u)) (eqb (stratum n) k && eqb (step u) (step n)) (steps_hold k n u h e)
        | inr h ↦
            (let z : u ≡ n = omega arith in
            or_right (steps_at step stratum k n (step u)) (eqb (stratum n) k && eqb (step u) (step n))
            (and_from (eqb (stratum n) k) (eqb (step u) (step n)) (eq-eqb (stratum n) k (sym (ap stratum z) ∙ e)) (eq-eqb (step u) (step n) (ap step z))))
      ]

  pub steps_only : (k n a : ℕ) → steps_at step stratum k n a ≡ true → (u : ℕ) × (u < n) × (stratum u ≡ k) × (step u ≡ a)
  steps_only k zero a h = absurd (both_ways false refl h)
  steps_only k (suc n) a h =
      elim (or_cases (steps_at step stratum k n a) (eqb (stratum n) k && eqb a (step n)) h) [
        | inl i ↦ (let w = steps_only k n a i in (w.0, omega (arith, w.1), w.2, w.3))
        | inr i ↦ (let w = and_parts (eqb (stratum n) k) (eqb a (step n)) i in (n, omega arith, eqb-true (stratum n) k w.0, sym (eqb-true a (step n) w.1)))
      ]

-- a number is in the list of a set exactly where it is in the set and below the bound
member_has : (P : Facts) (n a : ℕ) → P a ≡ true → a < n → Has (members P n) a
member_has P n a e l =
    let w = listed_says (members P n) a (listed_members P n a ∙ and_from (P a) (ltb a n) e (lt-ltb a n l)) in
    subst (Has (members P n)) w.1.1 (has_get_or (members P n) w.0 0 w.1.0)

has_member : (P : Facts) (n a : ℕ) → Has (members P n) a → P a ≡ true
has_member P n a h = subst (λ p. P p ≡ true) (h.2 0) (in_set P n h.0 h.1)

module _ (m : Model) (t : Task) (law : LawfulTask t) (card : Card) (begins : List StepCount) (count : ℕ) (c : CardOf m t card)
    (s : Strata (size_of card) (precedes_of card) (stratum_in begins) count) where
  abbrev o : Places
  o = places_in card.plan.count card.plan.places

  abbrev stratum : ℕ → ℕ
  stratum = stratum_in begins

  abbrev levels : List (List ℕ)
  levels = strata_in card begins count

  abbrev row : ℕ → List ℕ
  row k = members (steps_at (step_in card) stratum k o.size) 512

  -- every place has a step of the task
  step_below : (u : ℕ) → u < o.size → o.step u < t.steps
  step_below u k =
      let w = laying m t.levels o c.arranged in
      let i = o.level u in
      let h = (w.rows i (w.within u k)).holds u k refl in
      let a = (All-get_or (LawfulLevel t.steps) t.levels i [] (w.within u k) law.each).ascending.below h.0 h.1 in
      subst (λ x. x < t.steps) (h.2 0) a

  row_lays : (i : ℕ) → Row o stratum i (row i)
  row_lays i = record {
    holds = λ u k e. member_has (steps_at (step_in card) stratum i o.size) 512 (o.step u) (steps_hold (step_in card) stratum i o.size u k e) (omega (arith, step_below u k, law.few_steps));
    only = λ a h. steps_only (step_in card) stratum i o.size a (has_member (steps_at (step_in card) stratum i o.size) 512 a h);
  }

  row_at : (i : ℕ) → i < length levels → row i ≡ get_or levels i []
  row_at i k = sym (get_d_rows (step_in card) stratum o.size count i (omega (arith, length_rows (step_in card) stratum o.size count)))

  each_row : (P : List ℕ → Type 0) → ((i : ℕ) → i < count → P (row i)) → AllByRecursion P levels
  each_row P f =
      All-from_get_or P levels [] (λ i k. subst P (row_at i k) (f i (omega (arith, length_rows (step_in card) stratum o.size count))))

  row_some : (i : ℕ) → i < count → 0 < length (row i)
  row_some i k = let w = s.each i k in let h = (row_lays i).holds w.0 w.1 w.2 in omega (arith, h.1)

  row_below : (i j : ℕ) → j < length (row i) → get_or (row i) j 0 < t.steps
  row_below i j k =
      let P = steps_at (step_in card) stratum i o.size in
      let w = steps_only (step_in card) stratum i o.size (get_or (row i) j 0) (in_set P 512 j k) in
      omega (arith, w.3, step_below w.0 w.1)

  climbs : Climbs m o stratum
  climbs u v k h p = s.climbs u v ((c.exact u v k h).1 p)

  low : Low m o stratum
  low v k = elim (s.low v k) [
    | inl e ↦ inl e
    | inr w ↦ inr (w.0, w.1, (c.exact w.0 v w.1 k).0 w.2, w.3)
  ]

  strata_of : StrataOf m t.levels levels
  strata_of = record {
    places = o;
    stratum = stratum;
    arranged = c.arranged;
    climbs = climbs;
    low = low;
    lays = record {
      within = λ u k. omega (arith, s.below u k, length_rows (step_in card) stratum o.size count);
      rows = λ i k. subst (Row o stratum i) (row_at i k) (row_lays i);
    };
    ascending = each_row plans.Ascending (λ i k. ascending 512 (row i) (members_ascend (steps_at (step_in card) stratum i o.size) 512));
    some = each_row (λ xs. 0 < length xs) row_some;
  }

  lawful : LawfulTask (restaged t levels)
  lawful = record {
    few_facts = law.few_facts;
    few_steps = law.few_steps;
    few_levels = omega (arith, length_rows (step_in card) stratum o.size count, s.few, card.plan.few);
    few_in_all = omega (arith, total_few (step_in card) stratum o.size count, card.plan.few);
    start = law.start;
    goal = law.goal;
    each = each_row (LawfulLevel t.steps) (λ i k. record {
      some = row_some i k;
      ascending = record { below = row_below i; ascends = (members_ascend (steps_at (step_in card) stratum i o.size) 512).ascends };
    });
  }

  module _ (book : Lawful m) (accepted : Checked m t (Ok tt)) where
    good : Good m t (restaged t levels)
    good =
        let r = recasting m book (listed t.start) (listed t.goal) t.levels levels accepted.1 strata_of in
        record {
          lawful = lawful;
          opens = one_sheet_each.opens (restaged t levels) lawful;
          says = one_sheet_each.said (restaged t levels) lawful;
          accepted = (record { facts = accepted.0.facts; steps = accepted.0.steps }, r.accepted);
          same = r.same;
          calm = r.calm;
          again = record { facts = refl; steps = refl; start = refl; goal = refl; strata = r.again };
          only = λ t'' q. λ i. record {
            facts = q.facts i;
            steps = q.steps i;
            start = q.start i;
            goal = q.goal i;
            levels = one_recast m levels t''.levels levels q.strata r.again i;
          };
        }

    pub recast_written : (before : List ℕ) (r : Result ℕ TooShort) (after : List ℕ) → SheetWritten (restaged t levels) before r after → RecastWritten m t before r after
    recast_written before r after w = record {
      task = restaged t levels;
      recast = record { facts = refl; steps = refl; start = refl; goal = refl; strata = strata_of };
      good = good;
      written = w;
    }
