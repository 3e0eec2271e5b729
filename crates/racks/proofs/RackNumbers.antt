-- Proof that the facts and the steps of a rack are numbered one to one.
use Rattle.std.proofs.Common.{◌≡◌, ℕ, ◌+◌, ◌-◌, ◌*◌, ◌/◌, ◌%◌, ◌<◌, ◌≤◌, true, ◌&&◌, ltb, Some, Option, arith, MatchOption}
use Rattle.std.proofs.lemmas.Bool.{ltb-true, ltb-false, lt-ltb, le-ltb, and_parts, and_from, cond_both}
use Rattle.std.proofs.lemmas.Nat.{mul-add-lt, div-mul-add, mod-mul-add, div_below, mod_below, div-add-mod'}
use Rattle.racks.specs.declared.rack_names.RackFact.{RackFact}
use Rattle.racks.specs.declared.rack_names.RackFact.TheVariants.{InBath, OnShelf, Settled, ReadIn}
use Rattle.racks.specs.declared.rack_names.RackStep.{RackStep}
use Rattle.racks.specs.declared.rack_names.RackStep.TheVariants.{Put, TakeOut, Read, Settle}
use Rattle.racks.specs.Rack.{fact_on, step_on, rack_fact_number, rack_step_number, count_of_facts, count_of_steps, fact_at, step_at}

-- a pair has a number below all pairs, and its logger and bath come back from it
pub pair_below : (R B l b : ℕ) → (ltb l R && ltb b B) ≡ true → l * B + b < R * B
pair_below R B l b e =
    let h = and_parts (ltb l R) (ltb b B) e in
    omega (arith, mul-add-lt l B b R (ltb-true l R h.0) (ltb-true b B h.1))

pub pair_logger : (R B l b : ℕ) → (ltb l R && ltb b B) ≡ true → (l * B + b) / B ≡ l
pair_logger R B l b e = div-mul-add l B b (ltb-true b B (and_parts (ltb l R) (ltb b B) e).1)

pub pair_bath : (R B l b : ℕ) → (ltb l R && ltb b B) ≡ true → (l * B + b) % B ≡ b
pair_bath R B l b e = mod-mul-add l B b (ltb-true b B (and_parts (ltb l R) (ltb b B) e).1)

-- each number below all pairs is that of a pair
pub pair_on_lem : (R B c : ℕ) → 1 ≤ B → c < R * B → (ltb (c / B) R && ltb (c % B) B) ≡ true
pair_on_lem R B c h low = and_from _ _ (lt-ltb (c / B) R (div_below c B R h low)) (lt-ltb (c % B) B (mod_below c B h))

pub step_at_lem : (R B : ℕ) (s : RackStep) → step_on R B s ≡ true → step_at R B (rack_step_number R B s) ≡ Some s
unfolding step_at
step_at_lem R B (Put l b) e =
    rw (lt-ltb (l * B + b) (R * B) (pair_below R B l b e), pair_logger R B l b e, pair_bath R B l b e)
step_at_lem R B (TakeOut l b) e =
    let low = pair_below R B l b e in
    let back : R * B + (l * B + b) - R * B ≡ l * B + b = omega arith in
    rw (
      le-ltb (R * B + (l * B + b)) (R * B) (omega arith),
      lt-ltb (R * B + (l * B + b)) (2 * (R * B)) (omega arith),
      back,
      pair_logger R B l b e,
      pair_bath R B l b e,
    )
step_at_lem R B (Read l b) e =
    let low = pair_below R B l b e in
    let back : 2 * (R * B) + (l * B + b) - 2 * (R * B) ≡ l * B + b = omega arith in
    rw (
      le-ltb (2 * (R * B) + (l * B + b)) (R * B) (omega arith),
      le-ltb (2 * (R * B) + (l * B + b)) (2 * (R * B)) (omega arith),
      lt-ltb (2 * (R * B) + (l * B + b)) (3 * (R * B)) (omega arith),
      back,
      pair_logger R B l b e,
      pair_bath R B l b e,
    )
step_at_lem R B (Settle b) e =
    let low = ltb-true b B e in
    let back : 3 * (R * B) + b - 3 * (R * B) ≡ b = omega arith in
    rw (
      le-ltb (3 * (R * B) + b) (R * B) (omega arith),
      le-ltb (3 * (R * B) + b) (2 * (R * B)) (omega arith),
      le-ltb (3 * (R * B) + b) (3 * (R * B)) (omega arith),
      lt-ltb (3 * (R * B) + b) (3 * (R * B) + B) (omega arith),
      back,
    )

pub at_step : (R B a : ℕ) → 1 ≤ B → MatchOption (step_at R B a) (count_of_steps R B ≤ a) (λ s. (step_on R B s ≡ true) × (rack_step_number R B s ≡ a))
unfolding step_at
at_step R B a h =
    let P : Option RackStep → Type 0 = λ o. MatchOption o (count_of_steps R B ≤ a) (λ s. (step_on R B s ≡ true) × (rack_step_number R B s ≡ a)) in
    cond_both (ltb a (R * B)) _ _ P
    (λ e. (pair_on_lem R B a h (ltb-true _ _ e), div-add-mod' a B))
    (λ e. let past = ltb-false a (R * B) e in
    cond_both (ltb a (2 * (R * B))) _ _ P
    (λ f. let low = ltb-true a (2 * (R * B)) f in
    (pair_on_lem R B (a - R * B) h (omega arith), omega (arith, div-add-mod' (a - R * B) B)))
    (λ f. let past_two = ltb-false a (2 * (R * B)) f in
    cond_both (ltb a (3 * (R * B))) _ _ P
    (λ g. let low = ltb-true a (3 * (R * B)) g in
    (pair_on_lem R B (a - 2 * (R * B)) h (omega arith), omega (arith, div-add-mod' (a - 2 * (R * B)) B)))
    (λ g. let past_three = ltb-false a (3 * (R * B)) g in
    cond_both (ltb a (count_of_steps R B)) _ _ P
    (λ i. let low = ltb-true a (count_of_steps R B) i in (lt-ltb (a - 3 * (R * B)) B (omega arith), omega arith))
    (λ i. ltb-false a (count_of_steps R B) i))))

pub fact_at_lem : (R B : ℕ) (f : RackFact) → fact_on R B f ≡ true → fact_at R B (rack_fact_number R B f) ≡ Some f
unfolding fact_at
fact_at_lem R B (InBath l b) e =
    rw (lt-ltb (l * B + b) (R * B) (pair_below R B l b e), pair_logger R B l b e, pair_bath R B l b e)
fact_at_lem R B (OnShelf l) e =
    let low = ltb-true l R e in
    let back : R * B + l - R * B ≡ l = omega arith in
    rw (le-ltb (R * B + l) (R * B) (omega arith), lt-ltb (R * B + l) (R * B + R) (omega arith), back)
fact_at_lem R B (Settled b) e =
    let low = ltb-true b B e in
    let back : R * B + R + b - (R * B + R) ≡ b = omega arith in
    rw (
      le-ltb (R * B + R + b) (R * B) (omega arith),
      le-ltb (R * B + R + b) (R * B + R) (omega arith),
      lt-ltb (R * B + R + b) (R * B + R + B) (omega arith),
      back,
    )
fact_at_lem R B (ReadIn l b) e =
    let low = pair_below R B l b e in
    let back : R * B + R + B + (l * B + b) - (R * B + R + B) ≡ l * B + b = omega arith in
    rw (
      le-ltb (R * B + R + B + (l * B + b)) (R * B) (omega arith),
      le-ltb (R * B + R + B + (l * B + b)) (R * B + R) (omega arith),
      le-ltb (R * B + R + B + (l * B + b)) (R * B + R + B) (omega arith),
      lt-ltb (R * B + R + B + (l * B + b)) (count_of_facts R B) (omega arith),
      back,
      pair_logger R B l b e,
      pair_bath R B l b e,
    )

pub at_fact : (R B p : ℕ) → 1 ≤ B → MatchOption (fact_at R B p) (count_of_facts R B ≤ p) (λ f. (fact_on R B f ≡ true) × (rack_fact_number R B f ≡ p))
unfolding fact_at
at_fact R B p h =
    let P : Option RackFact → Type 0 = λ o. MatchOption o (count_of_facts R B ≤ p) (λ f. (fact_on R B f ≡ true) × (rack_fact_number R B f ≡ p)) in
    cond_both (ltb p (R * B)) _ _ P
    (λ e. (pair_on_lem R B p h (ltb-true _ _ e), div-add-mod' p B))
    (λ e. let past = ltb-false p (R * B) e in
    cond_both (ltb p (R * B + R)) _ _ P
    (λ f. let low = ltb-true p (R * B + R) f in (lt-ltb (p - R * B) R (omega arith), omega arith))
    (λ f. let past-shelf = ltb-false p (R * B + R) f in
    cond_both (ltb p (R * B + R + B)) _ _ P
    (λ g. let low = ltb-true p (R * B + R + B) g in (lt-ltb (p - (R * B + R)) B (omega arith), omega arith))
    (λ g. let past-settled = ltb-false p (R * B + R + B) g in
    cond_both (ltb p (count_of_facts R B)) _ _ P
    (λ i. let low = ltb-true p (count_of_facts R B) i in
    (pair_on_lem R B (p - (R * B + R + B)) h (omega arith), omega (arith, div-add-mod' (p - (R * B + R + B)) B)))
    (λ i. ltb-false p (count_of_facts R B) i))))

-- no number past the end
pub fact_below : (R B : ℕ) (f : RackFact) → fact_on R B f ≡ true → rack_fact_number R B f < count_of_facts R B
fact_below R B (InBath l b) e = omega (arith, pair_below R B l b e)
fact_below R B (OnShelf l) e = omega (arith, ltb-true l R e)
fact_below R B (Settled b) e = omega (arith, ltb-true b B e)
fact_below R B (ReadIn l b) e = omega (arith, pair_below R B l b e)

pub step_below : (R B : ℕ) (s : RackStep) → step_on R B s ≡ true → rack_step_number R B s < count_of_steps R B
step_below R B (Put l b) e = omega (arith, pair_below R B l b e)
step_below R B (TakeOut l b) e = omega (arith, pair_below R B l b e)
step_below R B (Read l b) e = omega (arith, pair_below R B l b e)
step_below R B (Settle b) e = omega (arith, ltb-true b B e)
