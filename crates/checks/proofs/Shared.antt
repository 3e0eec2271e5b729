-- What the sets of two steps share decides whether one authorizes, or feeds, the other.
use Rattle.std.proofs.Common.{◌≡◌, ℕ, Bool, true, false, ◌&&◌, Decides, MatchBool, sym, refl, ◌∙◌, ap₂, inl, inr}
use Rattle.std.proofs.lemmas.Bool.{both_ways, and_parts, and_from}
use Rattle.facts.specs.declared.NumberSet.{NumberSet}
use Rattle.facts.specs.Sets.{holds}
use Rattle.books.specs.Book.{Model, Facts}
use Rattle.books.specs.Gathered.{Gathers}
use Rattle.books.specs.declared.step_facts.StepFacts.{StepFacts}
use Rattle.plans.specs.Steps.{Authorizes, Feeds}
use Rattle.checks.specs.Shared.{Shares, Apart, Clear, Clashes}

-- two sets of words, and the sets of facts that they hold
module _ (a b : NumberSet 16) (f g : Facts) (e : (q : ℕ) → holds a.words q ≡ f q) (d : (q : ℕ) → holds b.words q ≡ g q) where
  both : (q : ℕ) → (holds a.words q && holds b.words q) ≡ (f q && g q)
  both q = ap₂ ◌&&◌ (e q) (d q)

  pub apart_facts : Apart a b → (p : ℕ) → f p ≡ true → g p ≡ true → ⊥
  apart_facts s p x y = both_ways _ (sym (both p) ∙ s p) (and_from (f p) (g p) x y)

  pub shared_fact : Shares a b → (p : ℕ) × (f p ≡ true) × (g p ≡ true)
  shared_fact s = let w = and_parts (f s.0) (g s.0) (sym (both s.0) ∙ s.1) in (s.0, w.0, w.1)

module _ (m : Model) (u v : ℕ) (a b : StepFacts) (x : Gathers m u a) (y : Gathers m v b) where
  pub clear_authorizes : (u ≡ v → ⊥) → Clear a b → Authorizes m u v
  clear_authorizes n c = record {
    other = n;
    adding = apart_facts a.adds b.deletes (m.adds u) (m.deletes v) x.adds y.deletes c.0;
    deleting = apart_facts a.deletes b.needs (m.deletes u) (m.needs v) x.deletes y.needs c.1;
  }

  pub clash_refuses : Clashes a b → Authorizes m u v → ⊥
  clash_refuses (inl s) w = let t = shared_fact a.adds b.deletes (m.adds u) (m.deletes v) x.adds y.deletes s in w.adding t.0 t.1 t.2
  clash_refuses (inr s) w = let t = shared_fact a.deletes b.needs (m.deletes u) (m.needs v) x.deletes y.needs s in w.deleting t.0 t.1 t.2

  -- what `authorizes` answers of two different steps
  pub authorizes_decides : (u ≡ v → ⊥) → (r : Bool) → MatchBool r (Clear a b) (Clashes a b) → Decides r (Authorizes m u v)
  authorizes_decides n true c = (λ e. clear_authorizes n c, λ w. refl)
  authorizes_decides n false c = (λ e. absurd (both_ways false refl e), λ w. absurd (clash_refuses c w))

  -- what `feeds` answers
  pub feeds_decides : (r : Bool) → MatchBool r (Shares a.adds b.needs) (Apart a.adds b.needs) → Decides r (Feeds m u v)
  feeds_decides true s = (λ e. shared_fact a.adds b.needs (m.adds u) (m.needs v) x.adds y.needs s, λ w. refl)
  feeds_decides false s = (λ e. absurd (both_ways false refl e), λ w. absurd (apart_facts a.adds b.needs (m.adds u) (m.needs v) x.adds y.needs s w.0 w.1 w.2))
