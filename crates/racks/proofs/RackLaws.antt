-- What each step of a rack needs, adds and deletes.
use Rattle.std.proofs.Common.{◌≡◌, ℕ, ◌<◌, ◌≤◌, true, ◌&&◌, ltb, Some, None, Option, refl, ap, subst, arith, MatchOption}
use Rattle.std.proofs.lemmas.Bool.{lt-ltb, and_from}
use Rattle.racks.specs.declared.rack_names.RackFact.{RackFact}
use Rattle.racks.specs.declared.rack_names.RackStep.{RackStep}
use Rattle.racks.specs.declared.rack_names.RackStep.TheVariants.{Put, TakeOut, Read, Settle}
use Rattle.racks.specs.Rack.{needs_of, adds_of, deletes_of, seconds_of, fact_on, step_on, rack_fact_number, rack_step_number, count_of_facts, count_of_steps, fact_at, step_at, numbers, set_of_step, time_of, rack_model, StepIs, StepNumbered, FactNumbered, RackRules}
use Rattle.racks.proofs.RackNumbers.{step_at_lem, at_step, step_below, fact_at_lem, at_fact, fact_below}

pub step_is : (R B : ℕ) (s : RackStep) → step_on R B s ≡ true →
    StepIs (rack_model R B) (rack_step_number R B s) (numbers R B (needs_of s)) (numbers R B (adds_of s)) (numbers R B (deletes_of s)) (seconds_of s)
step_is R B s e = record {
  in_range = step_below R B s e;
  needs = λ p. ap (λ o. set_of_step R B needs_of o p) (step_at_lem R B s e);
  adds = λ p. ap (λ o. set_of_step R B adds_of o p) (step_at_lem R B s e);
  deletes = λ p. ap (λ o. set_of_step R B deletes_of o p) (step_at_lem R B s e);
  seconds = ap time_of (step_at_lem R B s e);
}

on : (R B l b : ℕ) → l < R → b < B → (ltb l R && ltb b B) ≡ true
on R B l b h k = and_from _ _ (lt-ltb l R h) (lt-ltb b B k)

pub rack_rules : (R B : ℕ) → RackRules R B
rack_rules R B = record {
  put = λ l b h k. step_is R B (Put l b) (on R B l b h k);
  take_out = λ l b h k. step_is R B (TakeOut l b) (on R B l b h k);
  read = λ l b h k. step_is R B (Read l b) (on R B l b h k);
  settle = λ b k. step_is R B (Settle b) (lt-ltb b B k);
}

pub step_numbered : (R B : ℕ) (s : RackStep) → step_on R B s ≡ true → StepNumbered R B s (rack_step_number R B s)
step_numbered R B s e = record { on = e; number = refl; back = step_at_lem R B s e; is = step_is R B s e }

pub fact_numbered : (R B : ℕ) (f : RackFact) → fact_on R B f ≡ true → FactNumbered R B f (rack_fact_number R B f)
fact_numbered R B f e = record { on = e; in_range = fact_below R B f e; number = refl; back = fact_at_lem R B f e }

-- the same, from the number
pub step_here : (R B a : ℕ) (s : RackStep) → step_on R B s ≡ true → rack_step_number R B s ≡ a → StepNumbered R B s a
step_here R B a s e n = subst (λ m. StepNumbered R B s m) n (step_numbered R B s e)

pub fact_here : (R B p : ℕ) (f : RackFact) → fact_on R B f ≡ true → rack_fact_number R B f ≡ p → FactNumbered R B f p
fact_here R B p f e n = subst (λ m. FactNumbered R B f m) n (fact_numbered R B f e)

-- nothing past the end
none_step : (R B a : ℕ) (o : Option RackStep) → MatchOption o (count_of_steps R B ≤ a) (λ s. (step_on R B s ≡ true) × (rack_step_number R B s ≡ a)) →
    count_of_steps R B ≤ a → None ≡ o
none_step R B a None h past = refl
none_step R B a (Some s) h past = absurd (omega (arith, step_below R B s h.0, h.1))

pub no_step_at : (R B a : ℕ) → 1 ≤ B → count_of_steps R B ≤ a → None ≡ step_at R B a
no_step_at R B a bath past = none_step R B a (step_at R B a) (at_step R B a bath) past

none_fact : (R B p : ℕ) (o : Option RackFact) → MatchOption o (count_of_facts R B ≤ p) (λ f. (fact_on R B f ≡ true) × (rack_fact_number R B f ≡ p)) →
    count_of_facts R B ≤ p → None ≡ o
none_fact R B p None h past = refl
none_fact R B p (Some f) h past = absurd (omega (arith, fact_below R B f h.0, h.1))

pub no_fact_at : (R B p : ℕ) → 1 ≤ B → count_of_facts R B ≤ p → None ≡ fact_at R B p
no_fact_at R B p bath past = none_fact R B p (fact_at R B p) (at_fact R B p bath) past
