-- That a book is lawful is one fact, so that a kind of book may hold it as a ghost field.
use Rattle.std.proofs.Common.{◌≡◌, ℕ, ◌≤◌, false, ◌&&◌}
use mathlib.Core.Logic.{∥∥₁_elim}
use denote.Struct.Props.{props}
use Rattle.books.specs.Book.{Facts, Model, count, StepSets, Lawful}

step_sets_prop : (facts steps : ℕ) (sets : ℕ → Facts) → IsProp (StepSets facts steps sets)
step_sets_prop facts steps sets p q =
    let s : IsProp ((a p : ℕ) → steps ≤ a → sets a p ≡ false) = hlevel props in
    let f : IsProp ((a p : ℕ) → facts ≤ p → sets a p ≡ false) = hlevel props in
    let c : IsProp ((a : ℕ) → count (sets a) facts ≤ 250) = hlevel props in
    λ i. record {
      no_step = s p.no_step q.no_step i;
      no_fact = f p.no_fact q.no_fact i;
      few = c p.few q.few i;
    }

lawful_prop : (m : Model) → IsProp (Lawful m)
lawful_prop m p q =
    let f : IsProp (m.facts ≤ 1024) = hlevel props in
    let s : IsProp (m.steps ≤ 512) = hlevel props in
    let a : IsProp ((a p : ℕ) → (m.adds a p && m.deletes a p) ≡ false) = hlevel props in
    let t : IsProp ((a : ℕ) → m.seconds a ≤ 1000000) = hlevel props in
    let z : IsProp ((a : ℕ) → m.steps ≤ a → m.seconds a ≡ 0) = hlevel props in
    λ i. record {
      few_facts = f p.few_facts q.few_facts i;
      few_steps = s p.few_steps q.few_steps i;
      needs = step_sets_prop m.facts m.steps m.needs p.needs q.needs i;
      adds = step_sets_prop m.facts m.steps m.adds p.adds q.adds i;
      deletes = step_sets_prop m.facts m.steps m.deletes p.deletes q.deletes i;
      apart = a p.apart q.apart i;
      short = t p.short q.short i;
      no_time = z p.no_time q.no_time i;
    }

-- the laws of a book that holds the fact
pub lawful_shown : (m : Model) → ∥ Lawful m ∥₁ → Lawful m
lawful_shown m h = ∥∥₁_elim h (lawful_prop m) (λ l. l)
