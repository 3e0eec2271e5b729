-- A plan has one answer.
use Rattle.std.proofs.Common.{◌≡◌, ℕ, zero, suc, ◌<◌, Bool, not, ◌&&◌, List, [], ◌∷◌, length, get_or, take, Ok, Err, sym, refl, ap, ◌∙◌, subst, inl, inr, arith}
use Rattle.std.specs.List.{ContainsAt as Has, AllByRecursion}
use Rattle.std.proofs.ByRecursion.{all-has}
use Rattle.std.proofs.lemmas.Bool.{cases_order, both_ways, and_parts, not-true}
use Rattle.facts.specs.Sets.{First}
use Rattle.books.specs.Book.{Model, Facts}
use Rattle.books.specs.Listed.{listed}
use Rattle.plans.specs.Steps.{Met, passed}
use Rattle.plans.specs.Plans.{Authorized, Recognized, finally, Accepted}
use Rattle.task_sheets.specs.Content.{Task}
use Rattle.checks.specs.declared.fault.PlanFault.TheVariants.{Sheet, Mismatch, NeedMissing, NoOrder, GoalMissing}
use Rattle.checks.specs.Checked.{facts_after_levels, PassTo, Lacks, Stuck, Misses, OneAnswer}

-- level k of a recognized plan passes
pub passes : (m : Model) (E : Facts) (plan : List (List ℕ)) → Recognized m E plan → (k : ℕ) → k < length plan
    → AllByRecursion (Met m (finally m E (take k plan))) (get_or plan k []) × Authorized m (get_or plan k [])
passes m E [] r k l = absurd (omega arith)
passes m E (xs ∷ rest) r zero l = (r.0.met, r.0.authorized)
passes m E (xs ∷ rest) r (suc k) l = passes m (passed m E xs) rest r.1 k (omega arith)

-- level k passes where a later level is reached
pub passes_before : (m : Model) (E : Facts) (plan : List (List ℕ)) (n : ℕ) → Recognized m E (take n plan) → (k : ℕ) → k < n → k < length plan
    → AllByRecursion (Met m (finally m E (take k plan))) (get_or plan k []) × Authorized m (get_or plan k [])
passes_before m E [] n r k h l = absurd (omega arith)
passes_before m E (xs ∷ rest) zero r k h l = absurd (omega arith)
passes_before m E (xs ∷ rest) (suc n) r zero h l = (r.0.met, r.0.authorized)
passes_before m E (xs ∷ rest) (suc n) r (suc k) h l = passes_before m (passed m E xs) rest n r.1 k (omega arith) (omega arith)

same_first : (f : ℕ → Bool) (p q : ℕ) → First f p → First f q → p ≡ q
same_first f p q a b =
    elim (cases_order p q) [
      | inl e ↦ e
      | inr (inl l) ↦ absurd (both_ways (f p) (b.before p l) a.here)
      | inr (inr l) ↦ absurd (both_ways (f q) (a.before q l) b.here)
    ]

-- a step with all its needs lacks none
met_lacks_none : (m : Model) (E : Facts) (xs : List ℕ) (a p : ℕ) → AllByRecursion (Met m E) xs → Has xs a → First (λ q. m.needs a q && not (E q)) p → ⊥
met_lacks_none m E xs a p all has first =
    let t = and_parts (m.needs a p) (not (E p)) first.here in
    both_ways (E p) (not-true (E p) t.1) (all-has (Met m E) xs a all has p t.0)

module _ (m : Model) (t : Task) where
  -- level k + 1 is reached and does not pass
  record Fails (k : ℕ) : Type 0 where
    there : k < length t.levels
    reached : PassTo m t k
    fails : AllByRecursion (Met m (facts_after_levels m t k)) (get_or t.levels k []) × Authorized m (get_or t.levels k []) → ⊥

  lacks_fails : (k a p : ℕ) → Lacks m t k a p → Fails k
  lacks_fails k a p l = record {
    there = l.there;
    reached = l.reached;
    fails = λ s. met_lacks_none m (facts_after_levels m t k) (get_or t.levels k []) a p s.0 l.has l.lacking;
  }

  stuck_fails : (k : ℕ) → Stuck m t k → Fails k
  stuck_fails k s = record { there = s.there; reached = s.reached; fails = λ q. s.stuck q.1 }

  none_fails : Recognized m (listed t.start) t.levels → (k : ℕ) → Fails k → ⊥
  none_fails r k f = f.fails (passes m (listed t.start) t.levels r k f.there)

  same_level : (k j : ℕ) → Fails k → Fails j → k ≡ j
  same_level k j f g =
      elim (cases_order k j) [
        | inl e ↦ e
        | inr (inl l) ↦ absurd (f.fails (passes_before m (listed t.start) t.levels j g.reached k l f.there))
        | inr (inr l) ↦ absurd (g.fails (passes_before m (listed t.start) t.levels k f.reached j l g.there))
      ]

  apart : (k j a p : ℕ) → Lacks m t k a p → Stuck m t j → ⊥
  apart k j a p l s =
      let e = same_level k j (lacks_fails k a p l) (stuck_fails j s) in
      met_lacks_none m (facts_after_levels m t k) (get_or t.levels k []) a p
      (subst (λ i. AllByRecursion (Met m (facts_after_levels m t i)) (get_or t.levels i [])) (sym e) s.met) l.has l.lacking

  same_step : (k a b p q : ℕ) → Lacks m t k a p → Lacks m t k b q → a ≡ b
  same_step k a b p q l r =
      elim (cases_order a b) [
        | inl e ↦ e
        | inr (inl h) ↦ absurd (lone a p l (r.smaller a l.has h))
        | inr (inr h) ↦ absurd (lone b q r (l.smaller b r.has h))
      ]
    where
      lone : (c s : ℕ) → Lacks m t k c s → Met m (facts_after_levels m t k) c → ⊥
      lone c s y met =
          let w = and_parts (m.needs c s) (not (facts_after_levels m t k s)) y.lacking.here in
          both_ways (facts_after_levels m t k s) (not-true (facts_after_levels m t k s) w.1) (met s w.0)

  same_lack : (k j a b p q : ℕ) → Lacks m t k a p → Lacks m t j b q → (k ≡ j) × (a ≡ b) × (p ≡ q)
  same_lack k j a b p q l r =
      let e = same_level k j (lacks_fails k a p l) (lacks_fails j b q r) in
      let s = subst (λ i. Lacks m t i b q) (sym e) r in
      let d = same_step k a b p q l s in
      (e, d, same_first (λ x. m.needs a x && not (facts_after_levels m t k x)) p q l.lacking (subst (λ c. Lacks m t k c q) (sym d) s).lacking)

  unmissed : (p : ℕ) → Accepted m (listed t.start) (listed t.goal) t.levels → Misses m t p → ⊥
  unmissed p a s =
      let w = and_parts (listed t.goal p) (not (finally m (listed t.start) t.levels p)) s.missing.here in
      both_ways (finally m (listed t.start) t.levels p) (not-true _ w.1) (a.reached p w.0)

pub one_answer : OneAnswer
one_answer m t (Ok u) (Ok v) a b = refl
one_answer m t (Ok u) (Err (Sheet f)) a b = absurd b
one_answer m t (Ok u) (Err Mismatch) a b = absurd (b a.0)
one_answer m t (Ok u) (Err (NeedMissing n c p)) a b = absurd (none_fails m t a.1.recognized b.1.0 (lacks_fails m t b.1.0 c p b.1.2))
one_answer m t (Ok u) (Err (NoOrder n)) a b = absurd (none_fails m t a.1.recognized b.1.0 (stuck_fails m t b.1.0 b.1.2))
one_answer m t (Ok u) (Err (GoalMissing p)) a b = absurd (unmissed m t p a.1 b.1)
one_answer m t (Err (Sheet f)) r' a b = absurd a
one_answer m t (Err Mismatch) (Ok v) a b = absurd (a b.0)
one_answer m t (Err Mismatch) (Err (Sheet f)) a b = absurd b
one_answer m t (Err Mismatch) (Err Mismatch) a b = refl
one_answer m t (Err Mismatch) (Err (NeedMissing n c p)) a b = absurd (a b.0)
one_answer m t (Err Mismatch) (Err (NoOrder n)) a b = absurd (a b.0)
one_answer m t (Err Mismatch) (Err (GoalMissing p)) a b = absurd (a b.0)
one_answer m t (Err (NeedMissing n c p)) (Ok v) a b = absurd (none_fails m t b.1.recognized a.1.0 (lacks_fails m t a.1.0 c p a.1.2))
one_answer m t (Err (NeedMissing n c p)) (Err (Sheet f)) a b = absurd b
one_answer m t (Err (NeedMissing n c p)) (Err Mismatch) a b = absurd (b a.0)
one_answer m t (Err (NeedMissing n c p)) (Err (NeedMissing n' c' p')) a b =
    let w = same_lack m t a.1.0 b.1.0 c c' p p' a.1.2 b.1.2 in
    let e : n ≡ n' = a.1.1 ∙ ap suc w.0 ∙ sym b.1.1 in
    rw (e, w.1, w.2) refl
one_answer m t (Err (NeedMissing n c p)) (Err (NoOrder n')) a b = absurd (apart m t a.1.0 b.1.0 c p a.1.2 b.1.2)
one_answer m t (Err (NeedMissing n c p)) (Err (GoalMissing q)) a b = absurd (none_fails m t b.1.passed a.1.0 (lacks_fails m t a.1.0 c p a.1.2))
one_answer m t (Err (NoOrder n)) (Ok v) a b = absurd (none_fails m t b.1.recognized a.1.0 (stuck_fails m t a.1.0 a.1.2))
one_answer m t (Err (NoOrder n)) (Err (Sheet f)) a b = absurd b
one_answer m t (Err (NoOrder n)) (Err Mismatch) a b = absurd (b a.0)
one_answer m t (Err (NoOrder n)) (Err (NeedMissing n' c p)) a b = absurd (apart m t b.1.0 a.1.0 c p b.1.2 a.1.2)
one_answer m t (Err (NoOrder n)) (Err (NoOrder n')) a b =
    let w = same_level m t a.1.0 b.1.0 (stuck_fails m t a.1.0 a.1.2) (stuck_fails m t b.1.0 b.1.2) in
    let e : n ≡ n' = a.1.1 ∙ ap suc w ∙ sym b.1.1 in
    rw e refl
one_answer m t (Err (NoOrder n)) (Err (GoalMissing p)) a b = absurd (none_fails m t b.1.passed a.1.0 (stuck_fails m t a.1.0 a.1.2))
one_answer m t (Err (GoalMissing p)) (Ok v) a b = absurd (unmissed m t p b.1 a.1)
one_answer m t (Err (GoalMissing p)) (Err (Sheet f)) a b = absurd b
one_answer m t (Err (GoalMissing p)) (Err Mismatch) a b = absurd (b a.0)
one_answer m t (Err (GoalMissing p)) (Err (NeedMissing n c q)) a b = absurd (none_fails m t a.1.passed b.1.0 (lacks_fails m t b.1.0 c q b.1.2))
one_answer m t (Err (GoalMissing p)) (Err (NoOrder n)) a b = absurd (none_fails m t a.1.passed b.1.0 (stuck_fails m t b.1.0 b.1.2))
one_answer m t (Err (GoalMissing p)) (Err (GoalMissing q)) a b =
    let e = same_first _ p q a.1.missing b.1.missing in
    rw e refl
