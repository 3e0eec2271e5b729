-- Proof that the book of a rack is lawful.
use Rattle.std.proofs.Common.{◌≡◌, ℕ, ◌*◌, ◌<◌, ◌≤◌, true, false, ◌&&◌, ltb, List, [], ◌∷◌, length, Some, None, Option, refl, ⊎_elim, arith, MatchOption}
use Rattle.std.specs.List.{AllByRecursion}
use Rattle.std.proofs.lemmas.Bool.{ne_eqb, or_from, and_left, and_right, and_parts, cases_lt}
use Rattle.racks.specs.declared.rack_names.RackFact.{RackFact}
use Rattle.racks.specs.declared.rack_names.RackStep.{RackStep}
use Rattle.racks.specs.declared.rack_names.RackStep.TheVariants.{Put, TakeOut, Read, Settle}
use Rattle.books.specs.Book.{StepSets, Lawful, count}
use Rattle.books.specs.Listed.{listed}
use Rattle.racks.specs.Rack.{needs_of, adds_of, deletes_of, fact_on, step_on, rack_fact_number, rack_step_number, count_of_facts, count_of_steps, step_at, numbers, set_of_step, time_of, rack_model}
use Rattle.books.proofs.Counts.{count_none, count_entries}
use Rattle.racks.proofs.RackNumbers.{at_step, step_below, fact_below, pair_below}

-- the step with number a, or none past the steps
abbrev Numbered : (R B a : ℕ) → Option RackStep → Type 0
Numbered R B a o = MatchOption o (count_of_steps R B ≤ a) (λ s. (step_on R B s ≡ true) × (rack_step_number R B s ≡ a))

past_none : (R B a : ℕ) (of : RackStep → List RackFact) (o : Option RackStep) → Numbered R B a o → count_of_steps R B ≤ a → (p : ℕ) → set_of_step R B of o p ≡ false
past_none R B a of None h past p = refl
past_none R B a of (Some s) h past p = absurd (omega (arith, step_below R B s h.0, h.1))

past_time : (R B a : ℕ) (o : Option RackStep) → Numbered R B a o → count_of_steps R B ≤ a → time_of o ≡ 0
past_time R B a None h past = refl
past_time R B a (Some s) h past = absurd (omega (arith, step_below R B s h.0, h.1))

-- facts on the rack have numbers below the number of facts
not_listed : (R B p : ℕ) (fs : List RackFact) → AllByRecursion (λ f. fact_on R B f ≡ true) fs → count_of_facts R B ≤ p → listed (numbers R B fs) p ≡ false
not_listed R B p [] h past = refl
not_listed R B p (f ∷ fs) h past =
    let low = fact_below R B f h.0 in
    or_from _ _ (ne_eqb p (rack_fact_number R B f) (λ q. omega arith)) (not_listed R B p fs h.1 past)

past_fact : (R B a p : ℕ) (of : RackStep → List RackFact) → ((s : RackStep) → step_on R B s ≡ true → AllByRecursion (λ f. fact_on R B f ≡ true) (of s)) →
    (o : Option RackStep) → Numbered R B a o → count_of_facts R B ≤ p → set_of_step R B of o p ≡ false
past_fact R B a p of on None h past = refl
past_fact R B a p of on (Some s) h past = not_listed R B p (of s) (on s h.0) past

few_facts : (R B n : ℕ) (of : RackStep → List RackFact) → ((s : RackStep) → length (numbers R B (of s)) ≤ 2) →
    (o : Option RackStep) → count (set_of_step R B of o) n ≤ 250
few_facts R B n of few None = omega (arith, count_none (λ p. false) (λ p. refl) n)
few_facts R B n of few (Some s) = omega (arith, count_entries (numbers R B (of s)) n, few s)

sets : (R B : ℕ) (of : RackStep → List RackFact) → 1 ≤ B →
    ((s : RackStep) → step_on R B s ≡ true → AllByRecursion (λ f. fact_on R B f ≡ true) (of s)) →
    ((s : RackStep) → length (numbers R B (of s)) ≤ 2) →
    StepSets (count_of_facts R B) (count_of_steps R B) (λ a. set_of_step R B of (step_at R B a))
sets R B of bath on few = record {
  no_step = λ a p past. past_none R B a of (step_at R B a) (at_step R B a bath) past p;
  no_fact = λ a p past. past_fact R B a p of on (step_at R B a) (at_step R B a bath) past;
  few = λ a. few_facts R B (count_of_facts R B) of few (step_at R B a);
}

-- a step's facts are on the rack where the step is
needs_on : (R B : ℕ) (s : RackStep) → step_on R B s ≡ true → AllByRecursion (λ f. fact_on R B f ≡ true) (needs_of s)
needs_on R B (Put l b) e = ((and_parts (ltb l R) (ltb b B) e).0, tt)
needs_on R B (TakeOut l b) e = (e, tt)
needs_on R B (Read l b) e = (e, ((and_parts (ltb l R) (ltb b B) e).1, tt))
needs_on R B (Settle b) e = tt

adds_on : (R B : ℕ) (s : RackStep) → step_on R B s ≡ true → AllByRecursion (λ f. fact_on R B f ≡ true) (adds_of s)
adds_on R B (Put l b) e = (e, tt)
adds_on R B (TakeOut l b) e = ((and_parts (ltb l R) (ltb b B) e).0, tt)
adds_on R B (Read l b) e = (e, tt)
adds_on R B (Settle b) e = (e, tt)

deletes_on : (R B : ℕ) (s : RackStep) → step_on R B s ≡ true → AllByRecursion (λ f. fact_on R B f ≡ true) (deletes_of s)
deletes_on R B (Put l b) e = ((and_parts (ltb l R) (ltb b B) e).0, ((and_parts (ltb l R) (ltb b B) e).1, tt))
deletes_on R B (TakeOut l b) e = (e, tt)
deletes_on R B (Read l b) e = tt
deletes_on R B (Settle b) e = tt

needs_few : (R B : ℕ) (s : RackStep) → length (numbers R B (needs_of s)) ≤ 2
needs_few R B (Put l b) = omega arith
needs_few R B (TakeOut l b) = omega arith
needs_few R B (Read l b) = omega arith
needs_few R B (Settle b) = omega arith

adds_few : (R B : ℕ) (s : RackStep) → length (numbers R B (adds_of s)) ≤ 2
adds_few R B (Put l b) = omega arith
adds_few R B (TakeOut l b) = omega arith
adds_few R B (Read l b) = omega arith
adds_few R B (Settle b) = omega arith

deletes_few : (R B : ℕ) (s : RackStep) → length (numbers R B (deletes_of s)) ≤ 2
deletes_few R B (Put l b) = omega arith
deletes_few R B (TakeOut l b) = omega arith
deletes_few R B (Read l b) = omega arith
deletes_few R B (Settle b) = omega arith

-- no step adds what it deletes
step_apart : (R B p : ℕ) (s : RackStep) → step_on R B s ≡ true → (listed (numbers R B (adds_of s)) p && listed (numbers R B (deletes_of s)) p) ≡ false
step_apart R B p (Put l b) e =
    let low = pair_below R B l b e in
    ⊎_elim
    (λ (in-bath : p < R * B). and_right _ _ (or_from _ _ (ne_eqb p _ (λ q. omega arith)) (or_from _ _ (ne_eqb p _ (λ q. omega arith)) refl)))
    (λ (past : R * B ≤ p). and_left _ _ (or_from _ _ (ne_eqb p _ (λ q. omega arith)) refl))
    (cases_lt p (R * B))
step_apart R B p (TakeOut l b) e =
    let low = pair_below R B l b e in
    ⊎_elim
    (λ (in-bath : p < R * B). and_left _ _ (or_from _ _ (ne_eqb p _ (λ q. omega arith)) refl))
    (λ (past : R * B ≤ p). and_right _ _ (or_from _ _ (ne_eqb p _ (λ q. omega arith)) refl))
    (cases_lt p (R * B))
step_apart R B p (Read l b) e = and_right _ _ refl
step_apart R B p (Settle b) e = and_right _ _ refl

apart : (R B a p : ℕ) (o : Option RackStep) → Numbered R B a o → (set_of_step R B adds_of o p && set_of_step R B deletes_of o p) ≡ false
apart R B a p None h = refl
apart R B a p (Some s) h = step_apart R B p s h.0

short : (o : Option RackStep) → time_of o ≤ 1000000
short None = omega arith
short (Some (Put l b)) = omega arith
short (Some (TakeOut l b)) = omega arith
short (Some (Read l b)) = omega arith
short (Some (Settle b)) = omega arith

pub rack_lawful : (R B : ℕ) → 1 ≤ B → R * B ≤ 128 → R ≤ 128 → B ≤ 128 → Lawful (rack_model R B)
rack_lawful R B bath pairs loggers baths = record {
  few_facts = omega arith;
  few_steps = omega arith;
  needs = sets R B needs_of bath (needs_on R B) (needs_few R B);
  adds = sets R B adds_of bath (adds_on R B) (adds_few R B);
  deletes = sets R B deletes_of bath (deletes_on R B) (deletes_few R B);
  apart = λ a p. apart R B a p (step_at R B a) (at_step R B a bath);
  short = λ a. short (step_at R B a);
  no_time = λ a past. past_time R B a (step_at R B a) (at_step R B a bath) past;
}
