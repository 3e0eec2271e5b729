-- The answers of the check, shown by tests.
use Rattle.std.proofs.Common.{◌≡◌, ℕ, suc, ◌<◌, Bool, true, false, not, ◌&&◌, ◌||◌, eqb, ltb, ◌⊎◌, List, [], ◌∷◌, length, get_or, take, Ok, Err, refl, inl, inr}
use Rattle.std.proofs.ByRecursion.{all-has}
use Rattle.std.proofs.lemmas.Bool.{both_ways, and_parts, or_cases, eqb-true, ltb-true}
use Rattle.std.proofs.lemmas.Bool.Decides.{Decides-ltb, Decides-or, Decides-not}
use Rattle.books.specs.Book.{Model, Lawful, Facts}
use Rattle.books.specs.Listed.{listed}
use Rattle.plans.specs.Steps.{Met}
use Rattle.plans.specs.Plans.{singly, finally}
use Rattle.task_sheets.specs.Content.{Task}
use Rattle.checks.specs.Checked.{Matches, facts_after_levels, Checked}
use Rattle.checks.specs.declared.fault.PlanFault.TheVariants.{NeedMissing, NoOrder, GoalMissing}
use Rattle.worked.specs.Plans.{EndsWith, Leaves}
use Rattle.worked.proofs.Tests.{below, every, has_shown, met, free, decides_every, recognizes, met_decides, met_shown, recognized_shown, refused_shown}
use Rattle.worked.proofs.Sets.{alike, same_shown, listed_within, first_shown, singly_within, finally_within}

reached_shown : (goal : List ℕ) (E : Facts) → every E goal ≡ true → (p : ℕ) → listed goal p ≡ true → E p ≡ true
reached_shown [] E e p h = absurd (both_ways false refl h)
reached_shown (x ∷ goal) E e p h =
    let t = and_parts _ _ e in
    elim (or_cases _ _ h) [ inl q ↦ (rw (eqb-true p x q) t.0) | inr q ↦ reached_shown goal E t.1 p q ]

module _ (m : Model) (law : Lawful m) (t : Task) where
  -- the book and the task have the same numbers
  abbrev pub matches : Bool
  matches = eqb m.facts t.facts && eqb m.steps t.steps

  -- the final facts
  abbrev pub final : Facts
  final = finally m (listed t.start) t.levels

  matches_shown : matches ≡ true → Matches m t
  matches_shown e = let s = and_parts _ _ e in record { facts = eqb-true _ _ s.0; steps = eqb-true _ _ s.1 }

  -- accepted, by the picked orders of the levels
  pub accepted_shown : (orders : List (List ℕ)) → (matches && (recognizes m (listed t.start) t.levels orders && every final t.goal)) ≡ true → Checked m t (Ok tt)
  accepted_shown orders e =
      let s = and_parts _ _ e in
      let r = and_parts _ _ s.1 in (
        matches_shown s.0,
        record { recognized = recognized_shown m law (listed t.start) t.levels orders r.0; reached = reached_shown t.goal final r.1 },
      )

  pub ends_shown : (facts : List ℕ)
      → (every (λ x. ltb x m.facts) t.start && (every (λ x. ltb x m.facts) facts && below (λ p. alike (final p) (listed facts p)) m.facts)) ≡ true
      → EndsWith m t facts
  ends_shown facts e =
      let s = and_parts _ _ e in
      let r = and_parts _ _ s.1 in
      same_shown m.facts final (listed facts)
      (finally_within m law (listed t.start) t.levels (listed_within m.facts t.start s.0))
      (listed_within m.facts facts r.0) r.1

  -- the goal fact p is missing
  pub missing_shown : (orders : List (List ℕ)) (p : ℕ)
      → (matches && (recognizes m (listed t.start) t.levels orders && ((listed t.goal p && not (final p)) && below (λ q. not (listed t.goal q && not (final q))) p))) ≡ true
      → Checked m t (Err (GoalMissing p))
  missing_shown orders p e =
      let s = and_parts _ _ e in
      let r = and_parts _ _ s.1 in
      let f = and_parts _ _ r.1 in (
        matches_shown s.0,
        record {
          passed = recognized_shown m law (listed t.start) t.levels orders r.0;
          missing = first_shown (λ q. listed t.goal q && not (final q)) p f.0 f.1;
        },
      )

  -- level k + 1 is reached, by the picked orders of those before it
  abbrev pub reaches : ℕ → List (List ℕ) → Bool
  reaches k orders = matches && (ltb k (length t.levels) && recognizes m (listed t.start) (take k t.levels) orders)

  -- step a of level k + 1 is the smallest that lacks a need, and p the smallest fact that it lacks
  abbrev pub lacks : ℕ → ℕ → ℕ → Bool
  lacks k a p =
      listed (get_or t.levels k []) a
      && ((m.needs a p && not (facts_after_levels m t k p))
      && (below (λ q. not (m.needs a q && not (facts_after_levels m t k q))) p
      && every (λ b. not (ltb b a) || met m (facts_after_levels m t k) b) (get_or t.levels k [])))

  pub lacking_shown : (k a p : ℕ) (orders : List (List ℕ)) → (reaches k orders && lacks k a p) ≡ true → Checked m t (Err (NeedMissing (suc k) a p))
  lacking_shown k a p orders e =
      let s = and_parts _ _ e in
      let r = and_parts _ _ s.0 in
      let q = and_parts _ _ r.1 in
      let h = and_parts _ _ s.1 in
      let f = and_parts _ _ h.1 in
      let g = and_parts _ _ f.1 in
      let level = get_or t.levels k [] in
      let E = facts_after_levels m t k in
      let small = (decides_every (λ b. not (ltb b a) || met m E b) (λ b. (b < a → ⊥) ⊎ Met m E b) (λ b. Decides-or _ _ (Decides-not _ (Decides-ltb b a)) (met_decides m law E b)) level).0 g.1 in (
        matches_shown r.0,
        (
          k,
          refl,
          record {
            there = ltb-true _ _ q.0;
            reached = recognized_shown m law (listed t.start) (take k t.levels) orders q.1;
            has = has_shown level a h.0;
            lacking = first_shown (λ q. m.needs a q && not (E q)) p f.0 g.0;
            smaller = λ b i l. elim (all-has (λ b. (b < a → ⊥) ⊎ Met m E b) level b small i) [ inl n ↦ absurd (n l) | inr w ↦ w ];
          },
        ),
      )

  -- no step of level k + 1 authorizes every other
  pub stuck_shown : (k x : ℕ) (xs : List ℕ) (orders : List (List ℕ)) → get_or t.levels k [] ≡ x ∷ xs
      → (reaches k orders && (every (met m (facts_after_levels m t k)) (x ∷ xs) && every (λ b. not (free m (x ∷ xs) b)) (x ∷ xs))) ≡ true
      → Checked m t (Err (NoOrder (suc k)))
  stuck_shown k x xs orders is e =
      let s = and_parts _ _ e in
      let r = and_parts _ _ s.0 in
      let q = and_parts _ _ r.1 in
      let h = and_parts _ _ s.1 in (
        matches_shown r.0,
        (
          k,
          refl,
          record {
            there = ltb-true _ _ q.0;
            reached = recognized_shown m law (listed t.start) (take k t.levels) orders q.1;
            met = rw is (met_shown m law (facts_after_levels m t k) (x ∷ xs) h.0);
            stuck = rw is (refused_shown m law x xs h.1);
          },
        ),
      )

module _ (m : Model) (law : Lawful m) where
  -- what steps done singly leave
  pub leaves_shown : (start steps facts : List ℕ)
      → (every (λ x. ltb x m.facts) start && (every (λ x. ltb x m.facts) facts && below (λ p. alike (singly m (listed start) steps p) (listed facts p)) m.facts)) ≡ true
      → Leaves m start steps facts
  leaves_shown start steps facts e =
      let s = and_parts _ _ e in
      let r = and_parts _ _ s.1 in
      same_shown m.facts (singly m (listed start) steps) (listed facts)
      (singly_within m law (listed start) steps (listed_within m.facts start s.0)) (listed_within m.facts facts r.0) r.1
