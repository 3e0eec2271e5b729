-- The small books, the plan, its strata and the level with a cycle meet what the theorems ask for.
use Rattle.std.proofs.Common.{◌≡◌, ℕ, zero, suc, ◌+◌, ◌<◌, ◌≤◌, true, false, eqb, [], ◌∷◌, get_or, sym, refl, subst, inl, inr, arith}
use mathlib.Core.Bool.{false≢true}
use Rattle.std.specs.List.{ContainsAt as Has, AllByRecursion}
use Rattle.std.proofs.lemmas.List.Sorted.{IsPermutation-refl, IsPermutation-swap}
use Rattle.std.proofs.lemmas.Bool.{eq-eqb, eqb-true}
use Rattle.std.proofs.lemmas.Bool.Decides.{nat_tests}
use Rattle.books.specs.Book.{Lawful, StepSets, Facts, count}
use Rattle.plans.specs.Steps.{Authorizes}
use Rattle.plans.specs.Plans.{AuthorizedOrder, Ascending, Accepted}
use Rattle.plans.specs.Order.{Before, Free, Picked, Cycle, next, onward}
use Rattle.plans.specs.Places.{Arranged, Precedes, InOrder, Closed, Ready, Row, Lays}
use Rattle.plans.specs.Laws.{Climbs}
use Rattle.plans.specs.Recasting.{Low}
use Rattle.plans.specs.Tiny.{tiny, plan, places, stratum, strata, begun, ring, around, PremisesMet, FurtherPremisesMet}
use Rattle.plans.proofs.Preceding.{not_itself, not_back}
use Rattle.plans.proofs.Members.{has_none, has_first, has_more, has_cases}
use Rattle.plans.proofs.Picks.{refusing}
use Rattle.plans.proofs.Arranging.{ascent, laying}
use Rattle.plans.proofs.Layers.{feeding}

count_below : (P : Facts) (n : ℕ) → count P n ≤ n
unfolding count
count_below P zero = omega arith
count_below P (suc n) = let ih = count_below P n in grind arith

sets : (n : ℕ) → n ≤ 250 → (s : ℕ → Facts) → ((a p : ℕ) → 3 ≤ a → s a p ≡ false) → ((a p : ℕ) → n ≤ p → s a p ≡ false) → StepSets n 3 s
sets n l s f g = record { no_step = f; no_fact = g; few = λ a. omega (arith, count_below (s a) n) }

lawful : Lawful tiny
lawful = record {
  few_facts = omega arith;
  few_steps = omega arith;
  needs = sets 2 (omega arith) tiny.needs (λ a p l. grind (arith, nat_tests)) (λ a p l. grind (arith, nat_tests));
  adds = sets 2 (omega arith) tiny.adds (λ a p l. grind (arith, nat_tests)) (λ a p l. grind (arith, nat_tests));
  deletes = sets 2 (omega arith) tiny.deletes (λ a p l. grind (arith, nat_tests)) (λ a p l. grind (arith, nat_tests));
  apart = λ a p. grind (arith, nat_tests);
  short = λ a. omega arith;
  no_time = λ a l. refl;
}

one_zero : Authorizes tiny 1 0
one_zero = record { other = λ e. omega arith; adding = λ p a d. grind (arith, nat_tests); deleting = λ p d n. grind (arith, nat_tests) }

zero_two : Authorizes tiny 0 2
zero_two = record { other = λ e. omega arith; adding = λ p a d. grind (arith, nat_tests); deleting = λ p d n. grind (arith, nat_tests) }

two_zero : Authorizes tiny 2 0
two_zero = record { other = λ e. omega arith; adding = λ p a d. grind (arith, nat_tests); deleting = λ p d n. grind (arith, nat_tests) }

zero_one : Authorizes tiny 0 1 → ⊥
zero_one w = w.deleting 0 refl refl

order : Picked tiny (0 ∷ 1 ∷ []) (1 ∷ 0 ∷ [])
order = record {
  shuffled = IsPermutation-swap (0 ∷ 1 ∷ []) (1 ∷ 0 ∷ []) 0 1 (omega arith) (omega arith) refl;
  first = (
    record {
      ready = (one_zero, tt);
      smallest = λ b h l f. elim (has_cases 0 [] b h) [
        | inl q ↦ zero_one (rw (← q) at (f 1 (has_first 1 (0 ∷ [])) (λ e. omega arith)))
        | inr i ↦ has_none b i
      ];
    },
    (record { ready = tt; smallest = λ b h. absurd (has_none b h) }, tt),
  );
}

order' : Picked tiny (2 ∷ []) (2 ∷ [])
order' = record { shuffled = IsPermutation-refl (2 ∷ []); first = (record { ready = tt; smallest = λ b h. absurd (has_none b h) }, tt) }

arranged : Arranged tiny plan places
arranged = (1 ∷ 0 ∷ [], order, record { step = first_steps; level = first_levels }, (2 ∷ [], order', record { step = last_steps; level = last_levels }, refl))
  where
    first_steps : (k : ℕ) → k < 2 → places.step (0 + k) ≡ get_or (1 ∷ 0 ∷ []) k 0
    first_steps zero l = refl
    first_steps (suc zero) l = refl
    first_steps (suc (suc k)) l = absurd (omega arith)

    first_levels : (k : ℕ) → k < 2 → places.level (0 + k) ≡ 0
    first_levels zero l = refl
    first_levels (suc zero) l = refl
    first_levels (suc (suc k)) l = absurd (omega arith)

    last_steps : (k : ℕ) → k < 1 → places.step (2 + k) ≡ get_or (2 ∷ []) k 0
    last_steps zero l = refl
    last_steps (suc k) l = absurd (omega arith)

    last_levels : (k : ℕ) → k < 1 → places.level (2 + k) ≡ 1
    last_levels zero l = refl
    last_levels (suc k) l = absurd (omega arith)

first_level : AuthorizedOrder tiny (0 ∷ 1 ∷ []) (1 ∷ 0 ∷ [])
first_level = record { shuffled = order.shuffled; turn = ((one_zero, tt), (tt, tt)) }

last_level : AuthorizedOrder tiny (2 ∷ []) (2 ∷ [])
last_level = record { shuffled = IsPermutation-refl (2 ∷ []); turn = (tt, tt) }

accepted : Accepted tiny (λ p. eqb p 0) (λ p. eqb p 1) plan
accepted = record {
  recognized = (
    record {
      met = (λ p n. grind (arith, nat_tests), (λ p n. grind (arith, nat_tests), tt));
      authorized = (1 ∷ 0 ∷ [], first_level);
    },
    (
      record { met = (λ p n. grind (arith, nat_tests), tt); authorized = (2 ∷ [], last_level) },
      tt,
    ),
  );
  reached = λ p g. grind (arith, nat_tests);
}

second_first : Precedes tiny places 1 0 → ⊥
second_first (inl s) = s.2 one_zero
second_first (inr s) = omega (arith, s.0)

second_third : Precedes tiny places 1 2 → ⊥
second_third (inl s) = omega (arith, s.0)
second_third (inr s) = elim s.1 [ inl f ↦ f zero_two | inr (inl f) ↦ f two_zero | inr (inr t) ↦ false≢true t.1 ]

climbs : Climbs tiny places stratum
climbs zero zero k l q = absurd (not_itself tiny places 0 0 q)
climbs zero (suc zero) k l q = omega arith
climbs zero (suc (suc zero)) k l q = omega arith
climbs zero (suc (suc (suc v))) k l q = absurd (omega arith)
climbs (suc zero) zero k l q = absurd (second_first q)
climbs (suc zero) (suc zero) k l q = absurd (not_itself tiny places 1 1 q)
climbs (suc zero) (suc (suc zero)) k l q = absurd (second_third q)
climbs (suc zero) (suc (suc (suc v))) k l q = absurd (omega arith)
climbs (suc (suc zero)) zero k l q = absurd (not_back tiny places 2 0 (omega arith) q)
climbs (suc (suc zero)) (suc zero) k l q = absurd (not_back tiny places 2 1 (omega arith) q)
climbs (suc (suc zero)) (suc (suc zero)) k l q = absurd (not_itself tiny places 2 2 q)
climbs (suc (suc zero)) (suc (suc (suc v))) k l q = absurd (omega arith)
climbs (suc (suc (suc u))) v k l q = absurd (omega arith)

first_row : Row places stratum 0 (1 ∷ [])
first_row = record { holds = holds; only = λ a h. elim (has_cases 1 [] a h) [ inl q ↦ (0, omega arith, refl, q) | inr i ↦ absurd (has_none a i) ] }
  where
    holds : (u : ℕ) → u < 3 → stratum u ≡ 0 → Has (1 ∷ []) (places.step u)
    holds zero k e = has_first 1 []
    holds (suc zero) k e = absurd (omega arith)
    holds (suc (suc zero)) k e = absurd (omega arith)
    holds (suc (suc (suc u))) k e = absurd (omega arith)

second_row : Row places stratum 1 (0 ∷ 2 ∷ [])
second_row = record {
  holds = holds;
  only = λ a h. elim (has_cases 0 (2 ∷ []) a h) [
    | inl q ↦ (1, omega arith, refl, q)
    | inr i ↦ elim (has_cases 2 [] a i) [ inl q ↦ (2, omega arith, refl, q) | inr j ↦ absurd (has_none a j) ]
  ];
}
  where
    holds : (u : ℕ) → u < 3 → stratum u ≡ 1 → Has (0 ∷ 2 ∷ []) (places.step u)
    holds zero k e = absurd (omega arith)
    holds (suc zero) k e = has_first 0 (2 ∷ [])
    holds (suc (suc zero)) k e = has_more 0 (2 ∷ []) 2 (has_first 2 [])
    holds (suc (suc (suc u))) k e = absurd (omega arith)

lays : Lays places stratum strata
lays = record { within = within; rows = rows }
  where
    within : (u : ℕ) → u < 3 → stratum u < 2
    within zero k = omega arith
    within (suc zero) k = omega arith
    within (suc (suc zero)) k = omega arith
    within (suc (suc (suc u))) k = absurd (omega arith)

    rows : (i : ℕ) → i < 2 → Row places stratum i (get_or strata i [])
    rows zero k = first_row
    rows (suc zero) k = second_row
    rows (suc (suc i)) k = absurd (omega arith)

free : Free tiny (0 ∷ 1 ∷ []) 1
free b h n = elim (has_cases 0 (1 ∷ []) b h) [ inl q ↦ subst (Authorizes tiny 1) q one_zero | inr i ↦ elim (has_cases 1 [] b i) [ inl q ↦ absurd (n q) | inr j ↦ absurd (has_none b j) ] ]

first_second : Precedes tiny places 0 1
first_second = inl (refl, λ e. omega arith, zero_one)

first_third : Precedes tiny places 0 2
first_third = inr (omega arith, inr (inr (1, refl, refl)))

low : Low tiny places stratum
low zero k = inl refl
low (suc zero) k = inr (0, omega arith, first_second, refl)
low (suc (suc zero)) k = inr (0, omega arith, first_third, refl)
low (suc (suc (suc v))) k = absurd (omega arith)

in_order : InOrder tiny places
in_order = ascent tiny plan places arranged

closed : Closed tiny places begun
closed u v k l q e = absurd (omega (arith, in_order.upward u v k l q, eqb-true v 0 e))

ready_second : Ready tiny places begun 1
ready_second u k q = eq-eqb u 0 (omega (arith, in_order.upward u 1 k (omega arith) q))

ready_third : Ready tiny places begun 2
ready_third zero k q = refl
ready_third (suc zero) k q = absurd (second_third q)
ready_third (suc (suc u)) k q = absurd (omega (arith, in_order.upward (suc (suc u)) 2 k (omega arith) q))

ascending : AllByRecursion Ascending strata
ascending = ((tt, tt), (((omega arith, tt), (tt, tt)), tt))

ring_lawful : Lawful ring
ring_lawful = record {
  few_facts = omega arith;
  few_steps = omega arith;
  needs = sets 3 (omega arith) ring.needs (λ a p l. grind (arith, nat_tests)) (λ a p l. grind (arith, nat_tests));
  adds = sets 3 (omega arith) ring.adds (λ a p l. refl) (λ a p l. refl);
  deletes = sets 3 (omega arith) ring.deletes (λ a p l. grind (arith, nat_tests)) (λ a p l. grind (arith, nat_tests));
  apart = λ a p. refl;
  short = λ a. omega arith;
  no_time = λ a l. refl;
}

-- a step that needs what another deletes comes before it
before : (a b p : ℕ) → (a ≡ b → ⊥) → ring.needs a p ≡ true → ring.deletes b p ≡ true → Before ring a b
before a b p n e f = record { differ = n; refused = λ w. w.deleting p f e }

zero_in : Has around 0
zero_in = has_first 0 (1 ∷ 2 ∷ [])

one_in : Has around 1
one_in = has_more 0 (1 ∷ 2 ∷ []) 1 (has_first 1 (2 ∷ []))

two_in : Has around 2
two_in = has_more 0 (1 ∷ 2 ∷ []) 2 (has_more 1 (2 ∷ []) 2 (has_first 2 []))

zero_two_before : Before ring 0 2
zero_two_before = before 0 2 0 (λ e. omega arith) refl refl

two_one_before : Before ring 2 1
two_one_before = before 2 1 2 (λ e. omega arith) refl refl

one_zero_before : Before ring 1 0
one_zero_before = before 1 0 1 (λ e. omega arith) refl refl

cycle : Cycle ring around
cycle = (0, onward zero_in zero_two_before (onward two_in two_one_before (next one_in zero_in one_zero_before)))

-- a step before b keeps b from being free
not_free : (a b : ℕ) → Has around a → Before ring a b → Free ring around b → ⊥
not_free a b h w f = w.refused (f a h (λ e. w.differ (sym e)))

stuck : (b : ℕ) → Has around b → Free ring around b → ⊥
stuck zero h f = not_free 1 0 one_in one_zero_before f
stuck (suc zero) h f = not_free 2 1 two_in two_one_before f
stuck (suc (suc zero)) h f = not_free 0 2 zero_in zero_two_before f
stuck (suc (suc (suc b))) h f = past h
  where
    past : Has around (suc (suc (suc b))) → ⊥
    past (zero, l, e) = omega (arith, e 0)
    past (suc zero, l, e) = omega (arith, e 0)
    past (suc (suc zero), l, e) = omega (arith, e 0)
    past (suc (suc (suc k)), l, e) = omega arith

pub met : PremisesMet
met = record {
  lawful = lawful;
  ascending = (((omega arith, tt), (tt, tt)), ((tt, tt), tt));
  accepted = accepted;
  arranged = arranged;
  precedes = (first_second, first_third);
  climbs = climbs;
  lays = lays;
  distinct = ((tt, tt), (((λ e. omega arith, tt), (tt, tt)), tt));
}

pub further_met : FurtherPremisesMet
further_met = record {
  picked = order;
  ordered = (first_level, (last_level, tt));
  free = (free, record { differ = λ e. omega arith; refused = zero_one });
  in_order = in_order;
  levels = laying tiny plan places arranged;
  fed = feeding tiny lawful places in_order plan (laying tiny plan places arranged) (λ p. eqb p 0) accepted.recognized;
  independent = (second_third, not_back tiny places 2 1 (omega arith));
  closed = closed;
  ready = (ready_second, ready_third);
  strataof = record {
    places = places;
    stratum = stratum;
    arranged = arranged;
    climbs = climbs;
    low = low;
    lays = lays;
    ascending = ascending;
    some = (omega arith, (omega arith, tt));
  };
  ring_lawful = ring_lawful;
  ring_distinct = (((λ e. omega arith), ((λ e. omega arith), tt)), (((λ e. omega arith), tt), (tt, tt)));
  cycle = cycle;
  stuck = stuck;
  refused = refusing ring around [] around (IsPermutation-refl around) 0 zero_in stuck;
}
