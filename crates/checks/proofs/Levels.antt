-- One level: what each turn of a loop over its steps keeps.
use Rattle.std.proofs.Common.{◌≡◌, ℕ, suc, ◌+◌, ◌<◌, ◌≤◌, Bool, true, false, not, ◌&&◌, ◌||◌, eqb, List, [], ◌∷◌, ◌++◌, length, get_or, take, set, Decides, sym, refl, ap, ◌∙◌, subst, inl, inr, arith, get_or-set_other, get_or-set_same}
use Rattle.std.specs.List.{ContainsAt as Has, HoldsAt}
use Rattle.std.proofs.lemmas.List.{get_or-map, take_more}
use Rattle.std.proofs.ByRecursion.{All-from_get_or}
use Rattle.std.proofs.lemmas.Bool.Decides.{nat_tests, Decides-like, Decides-not, Decides-at}
use Rattle.std.proofs.lemmas.Bool.{cases_lt, cases_order, cases_Bool, both_ways, and_from, not_from_false, not_from_true, eq-eqb}
use Rattle.facts.specs.Sets.{First}
use Rattle.books.specs.Book.{Model, Facts}
use Rattle.books.specs.Gathered.{Gathers}
use Rattle.plans.specs.Steps.{Authorizes, some}
use Rattle.plans.specs.Order.{Before}
use Rattle.plans.specs.Plans.{Ascending}
use Rattle.plans.proofs.Members.{pairwise_get_or}
use Rattle.checks.specs.declared.arrangement.Place.{Place}
use Rattle.checks.specs.declared.draft.PlacedStep.{PlacedStep}
use Rattle.checks.specs.Drafts.{steps_of, levels_of, Told}

-- one more element of a table, where a table says something of each index
pub table_more : {X : Type 0} (P : ℕ → X → Type 0) (ts : List X) (i : ℕ) (v : X) → i < length ts → ((k : ℕ) → k < i → HoldsAt (P k) ts k) → P i v
    → (k : ℕ) → k < i + 1 → HoldsAt (P k) (set ts i v) k
table_more P ts i v l f p k h d =
    elim (cases_lt k i) [
      | inl j ↦ (let n : k ≡ i → ⊥ = λ e. omega arith in subst (P k) (sym (get_or-set_other ts i k v d n)) (f k j d))
      | inr j ↦ (let e : i ≡ k = omega arith in subst (λ n. P n (get_or (set ts i v) n d)) e (subst (P i) (sym (get_or-set_same ts i v d l)) p))
    ]

pub first_like : (f g : ℕ → Bool) (p : ℕ) → ((q : ℕ) → f q ≡ g q) → First f p → First g p
first_like f g p e h = record { here = sym (e p) ∙ h.here; before = λ q l. sym (e q) ∙ h.before q l }

-- what rises from each position to each later one ascends
pub pairwise_climbs : (ps : List ℕ) → ((i j : ℕ) → i < j → j < length ps → get_or ps i 0 < get_or ps j 0) → Ascending ps
pairwise_climbs [] w = tt
pairwise_climbs (p ∷ ps) w = (
  All-from_get_or (λ b. p < b) ps 0 (λ i l. w 0 (suc i) (omega arith) (omega arith)),
  pairwise_climbs ps (λ i j l k. w (suc i) (suc j) (omega arith) (omega arith)),
)

-- of ascending steps, those smaller than the one at i stand before it
pub smaller_before : (xs : List ℕ) → Ascending xs → (P : ℕ → Type 0) (i : ℕ) → i < length xs → ((k : ℕ) → k < i → P (get_or xs k 0)) → (b : ℕ) → Has xs b → b < get_or xs i 0 → P b
smaller_before xs up P i l f b h s =
    elim (cases_order h.0 i) [
      | inl e ↦ absurd (omega (arith, h.2 0, ap (λ n. get_or xs n 0) e))
      | inr (inl k) ↦ subst P (h.2 0) (f h.0 k)
      | inr (inr k) ↦ absurd (omega (arith, h.2 0, pairwise_get_or (λ a b. a < b) xs up i h.0 0 k h.1))
    ]

some_push : (f : ℕ → Bool) (xs : List ℕ) (a : ℕ) → some f (xs ++ a ∷ []) ≡ (some f xs || f a)
some_push f [] a = grind (arith, nat_tests)
some_push f (x ∷ xs) a = let e = some_push f xs a in grind (arith, nat_tests)

-- one more step
pub some_more : (f : ℕ → Bool) (xs : List ℕ) (i : ℕ) → i < length xs → some f (take (i + 1) xs) ≡ (some f (take i xs) || f (get_or xs i 0))
some_more f xs i l = ap (some f) (take_more xs i 0 l) ∙ some_push f (take i xs) (get_or xs i 0)

-- a row with the numbers below n that P holds of
pub row_decides : (n j : ℕ) (b : Bool) (P : Type 0) → (j < n → Decides b P) → (n ≤ j → b ≡ false) → Decides b ((j < n) × P)
row_decides n j b P within past =
    elim (cases_lt j n) [
      | inl l ↦ Decides-like b (λ p. (l, p)) (λ w. w.1) (within l)
      | inr l ↦ (λ e. absurd (both_ways b (past l) e), λ w. absurd (omega (arith, w.0)))
    ]

pub same_place : (p q : Place) → p.step ≡ q.step → p.level ≡ q.level → p ≡ q
same_place p q e d = λ i. record { step = e i; level = d i }

-- the step and the level at a position
module _ (d : List PlacedStep) (i : ℕ) (s : PlacedStep) (l : i < length d) (e : s ≡ get_or d i s) where
  pub step_at : get_or (steps_of d) i 0 ≡ s.place.step
  step_at = get_or-map (λ (s : PlacedStep). s.place.step) d i s 0 l ∙ sym (ap (λ (s : PlacedStep). s.place.step) e)

  level_at : get_or (levels_of d) i 0 ≡ s.place.level
  level_at = get_or-map (λ (s : PlacedStep). s.place.level) d i s 0 l ∙ sym (ap (λ (s : PlacedStep). s.place.level) e)

  pub place_at : (number : ℕ) → get_or (levels_of d) i 0 ≡ number → s.place ≡ record { step = get_or (steps_of d) i 0; level = number }
  place_at number h = same_place s.place (record { step = get_or (steps_of d) i 0; level = number }) (sym step_at) (sym level_at ∙ h)

  pub told_at : (m : Model) → Told m d → Gathers m s.place.step s.facts
  told_at m t = subst (λ (x : PlacedStep). Gathers m x.place.step x.facts) (sym e) (t i l s)

-- a set that has nothing outside E is met
pub met_within : (f g E : Facts) → ((q : ℕ) → f q ≡ g q) → ((q : ℕ) → (f q && not (E q)) ≡ false) → (p : ℕ) → g p ≡ true → E p ≡ true
met_within f g E e h p t =
    elim (cases_Bool (E p)) [ inl s ↦ s | inr s ↦ absurd (both_ways _ (h p) (and_from (f p) (not (E p)) (e p ∙ t) (not_from_false (E p) s))) ]

module _ (m : Model) (u v : ℕ) where
  pub not_before_itself : u ≡ v → Decides (not (eqb u v)) (Before m u v)
  not_before_itself e =
      Decides-at (not (eqb u v)) false (not_from_true (eqb u v) (eq-eqb u v e)) (λ f. absurd (both_ways false refl f), λ w. absurd (w.differ e))

  -- another step comes before where it is not authorized
  pub before_decides : (u ≡ v → ⊥) → (s : Bool) → Decides s (Authorizes m v u) → Decides (not s) (Before m u v)
  before_decides n s h = Decides-like (not s) (λ f. record { differ = n; refused = f }) (λ w. w.refused) (Decides-not s h)

-- a set that is marked up to j gets a mark at j, or none
module _ (old new : ℕ → Bool) (j : ℕ) (r : Bool) (is : (q : ℕ) → new q ≡ (old q || (r && eqb q j))) (empty : (k : ℕ) → j ≤ k → old k ≡ false) where
  same_elsewhere : (k : ℕ) → (k ≡ j → ⊥) → new k ≡ old k
  same_elsewhere k n = let e = is k in grind (arith, nat_tests)

  pub empty_more : (k : ℕ) → j + 1 ≤ k → new k ≡ false
  empty_more k l = same_elsewhere k (λ e. omega arith) ∙ empty k (omega arith)

  marked_here : new j ≡ r
  marked_here = let e = is j in let f = empty j (omega arith) in grind (arith, nat_tests)

  pub marks_more : (P : ℕ → Type 0) → ((k : ℕ) → k < j → Decides (old k) (P k)) → Decides r (P j) → (k : ℕ) → k < j + 1 → Decides (new k) (P k)
  marks_more P f h k l =
      elim (cases_lt k j) [
        | inl s ↦ Decides-at (new k) (old k) (same_elsewhere k (λ e. omega arith)) (f k s)
        | inr s ↦ (let e : j ≡ k = omega arith in subst (λ n. Decides (new n) (P n)) e (Decides-at (new j) r marked_here h))
      ]

pub unmarked : (a r b : Bool) → r ≡ false → a ≡ (a || (r && b))
unmarked true r b e = refl
unmarked false r b e = sym (ap (λ s. s && b) e)
