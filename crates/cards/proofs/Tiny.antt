-- The small card, board and run meet what the theorems ask for.
use Rattle.std.proofs.Common.{◌≡◌, ℕ, zero, suc, ◌<◌, true, false, eqb, List, [], ◌∷◌, refl, subst, arith}
use mathlib.Core.Path.{fun_ext}
use Rattle.std.proofs.lemmas.Bool.{both_ways}
use Rattle.std.proofs.lemmas.Bool.Decides.{nat_tests}
use Rattle.books.specs.Book.{Facts}
use Rattle.books.specs.Listed.{listed}
use Rattle.plans.specs.Plans.{Accepted}
use Rattle.plans.specs.Places.{Precedes}
use Rattle.plans.specs.Tiny.{tiny, plan, places}
use Rattle.plans.proofs.Tiny.{met}
use Rattle.cards.specs.Moments.{Moment, done}
use Rattle.cards.specs.Answers.{Moved}
use Rattle.cards.specs.Runs.{Issued}
use Rattle.cards.specs.Requests.{Made, Trail}
use Rattle.cards.specs.Tiny.{task, setting, start, PremisesMet}
use Rattle.cards.specs.declared.state.State.TheVariants.{InHand}
use Rattle.cards.specs.declared.state.Event.{Event}
use Rattle.cards.specs.declared.state.Event.TheVariants.{Begin, Finish}
use Rattle.cards.specs.declared.request.Request.TheVariants.{Call, Look}
use Rattle.cards.specs.declared.request.Reply.TheVariants.{Granted as granted, Seen, Refused}
use Rattle.cards.specs.declared.fault.RunFault.TheVariants.{Unfinished}
use Rattle.cards.proofs.Answering.{still, moved, finish_begin}

one_fact : (n : ℕ) → (λ p. eqb p n) ≡ listed (n ∷ [])
one_fact n = fun_ext (λ p. grind (arith, nat_tests))

accepted : Accepted tiny (listed (0 ∷ [])) (listed (1 ∷ [])) plan
accepted = subst (λ (x : Facts). Accepted tiny x (listed (1 ∷ [])) plan) (one_fact 0) (subst (λ (x : Facts). Accepted tiny (λ p. eqb p 0) x plan) (one_fact 1) met.accepted)

-- only place 0 precedes any, and nothing precedes place 0
first_only : (u v : ℕ) → setting.precedes (suc u) v ≡ true → ⊥
first_only u v e = let f : setting.precedes (suc u) v ≡ false = grind (arith, nat_tests) in both_ways _ f e

nothing_first : (u : ℕ) → setting.precedes u 0 ≡ true → ⊥
nothing_first u e = let f : setting.precedes u 0 ≡ false = grind (arith, nat_tests) in both_ways _ f e

preceding : (u v : ℕ) → u < 3 → v < 3 → setting.precedes u v ≡ true → Precedes tiny places u v
preceding zero zero k l e = absurd (nothing_first 0 e)
preceding zero (suc zero) k l e = met.precedes.0
preceding zero (suc (suc zero)) k l e = met.precedes.1
preceding zero (suc (suc (suc v))) k l e = absurd (omega arith)
preceding (suc u) v k l e = absurd (first_only u v e)

preceded : (u v : ℕ) → u < 3 → v < 3 → Precedes tiny places u v → setting.precedes u v ≡ true
preceded zero zero k l w = absurd (omega (arith, met.climbs 0 0 k l w))
preceded zero (suc zero) k l w = refl
preceded zero (suc (suc zero)) k l w = refl
preceded zero (suc (suc (suc v))) k l w = absurd (omega arith)
preceded (suc zero) zero k l w = absurd (omega (arith, met.climbs 1 0 k l w))
preceded (suc zero) (suc zero) k l w = absurd (omega (arith, met.climbs 1 1 k l w))
preceded (suc zero) (suc (suc zero)) k l w = absurd (omega (arith, met.climbs 1 2 k l w))
preceded (suc zero) (suc (suc (suc v))) k l w = absurd (omega arith)
preceded (suc (suc zero)) zero k l w = absurd (omega (arith, met.climbs 2 0 k l w))
preceded (suc (suc zero)) (suc zero) k l w = absurd (omega (arith, met.climbs 2 1 k l w))
preceded (suc (suc zero)) (suc (suc zero)) k l w = absurd (omega (arith, met.climbs 2 2 k l w))
preceded (suc (suc zero)) (suc (suc (suc v))) k l w = absurd (omega arith)
preceded (suc (suc (suc u))) v k l w = absurd (omega arith)

issued : Issued setting task start
issued = record {
  accepted = (record { facts = refl; steps = refl }, accepted);
  room = omega arith;
  places = met.arranged;
  exact = λ u v k l. (preceding u v k l, preceded u v k l);
  waiting = λ u. refl;
  start = λ q. refl;
}

-- the moments after each call that is granted
abbrev begun₀ : Moment
begun₀ = moved setting start Begin 0

abbrev finished₀ : Moment
finished₀ = moved setting begun₀ Finish 0

abbrev begun₁ : Moment
begun₁ = moved setting finished₀ Begin 1

abbrev begun₂ : Moment
begun₂ = moved setting begun₁ Begin 2

-- only place 0 has to be finished
clears : (b : Moment) (p : ℕ) → done b 0 ≡ true → (u : ℕ) → u < 3 → setting.precedes u p ≡ true → done b u ≡ true
clears b p f zero l e = f
clears b p f (suc u) l e = absurd (first_only u p e)

abbrev calls : List Made
calls =
    record { asked = Call (record { event = Begin; place = 1 }); told = Refused (Unfinished 0); after = start }
    ∷ record { asked = Call (record { event = Begin; place = 0 }); told = granted; after = begun₀ }
    ∷ record { asked = Call (record { event = Finish; place = 0 }); told = granted; after = finished₀ }
    ∷ record { asked = Call (record { event = Begin; place = 1 }); told = granted; after = begun₁ }
    ∷ record { asked = Call (record { event = Begin; place = 2 }); told = granted; after = begun₂ }
    ∷ record { asked = Look 2; told = Seen 2 2 InHand; after = begun₂ }
    ∷ []

goes : (b : Moment) (e : Event) (p : ℕ) → Moved setting b e p (moved setting b e p)
goes b e p = record { state = λ u. refl; board = λ q. refl }

trail : Trail setting start calls
trail = (
  (omega arith, refl, refl, record { there = omega arith; before = refl; unfinished = refl; lowest = λ v l. absurd (omega arith) }, still start),
  (
    (record { there = omega arith; state = refl; cleared = λ i u l e. absurd (nothing_first u e) }, goes start Begin 0),
    (
      (record { there = omega arith; state = refl; cleared = λ i. absurd (finish_begin i) }, goes begun₀ Finish 0),
      (
        (record { there = omega arith; state = refl; cleared = λ i. clears finished₀ 1 refl }, goes finished₀ Begin 1),
        (
          (record { there = omega arith; state = refl; cleared = λ i. clears begun₁ 2 refl }, goes begun₁ Begin 2),
          ((omega arith, refl, refl, refl, still begun₂), tt),
        ),
      ),
    ),
  ),
)

pub premises_met : PremisesMet
premises_met = record {
  lawful = met.lawful;
  issued = issued;
  calls = calls;
  asks = refl;
  trail = trail;
  finished = refl;
  together = (refl, refl);
}
