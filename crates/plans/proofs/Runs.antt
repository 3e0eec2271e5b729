-- What a part of the places leaves, and what a place that is ready finds.
use Rattle.std.proofs.Common.{◌≡◌, ℕ, zero, suc, ◌<◌, ◌≤◌, Bool, true, false, cond, not, ◌&&◌, ◌||◌, ◌⊎◌, refl, inl, inr, arith, rules}
use Rattle.std.proofs.lemmas.Bool.{both_ways, cases_Bool, cases_lt, ltb-true}
use Rattle.std.proofs.lemmas.Bool.Decides.{nat_tests}
use Rattle.books.specs.Book.{Model, Facts, after}
use Rattle.plans.specs.Steps.{Disturb}
use Rattle.plans.specs.Places.{Places, Precedes, InOrder, left_below, under}
use Rattle.plans.specs.Laws.{with, Independence, Commutation, Needs, Apart, Progress}

-- one place more, for one fact: a is held before in the first run and b in the second
mono_step : (i j add del a b : Bool) → (i ≡ true → add ≡ true → j ≡ true) → (j ≡ true → del ≡ true → i ≡ true) → (a ≡ true → b ≡ true)
    → cond i ((a && not del) || add) a ≡ true → cond j ((b && not del) || add) b ≡ true
mono_step i j add del a b f g h t = grind arith

-- one place more under two runs, of which the second has done one step more, last. The two steps do not undo each other
last_step : (i j add del add' del' x y : Bool) → j ≡ i → (i ≡ true → add ≡ true → del' ≡ true → ⊥) → (i ≡ true → add' ≡ true → del ≡ true → ⊥)
    → y ≡ ((x && not del') || add') → cond j ((y && not del) || add) y ≡ ((cond i ((x && not del) || add) x && not del') || add')
last_step i j add del add' del' x y e f g h = grind arith

module _ (m : Model) (o : Places) (E : Facts) (p : ℕ) where
  -- a run that has each place of another that adds p, and no other place that deletes it, holds p where the other does
  pub mono : (some more : ℕ → Bool) (n : ℕ)
      → ((u : ℕ) → u < n → some u ≡ true → m.adds (o.step u) p ≡ true → more u ≡ true)
      → ((u : ℕ) → u < n → more u ≡ true → m.deletes (o.step u) p ≡ true → some u ≡ true)
      → left_below m o E some n p ≡ true → left_below m o E more n p ≡ true
  mono some more zero f g t = t
  mono some more (suc n) f g t =
      mono_step (some n) (more n) (m.adds (o.step n) p) (m.deletes (o.step n) p) _ _ (f n (omega arith)) (g n (omega arith))
      (mono some more n (λ u l. f u (omega arith)) (λ u l. g u (omega arith))) t

  -- runs of the same places
  pub same : (these those : ℕ → Bool) (n : ℕ) → ((u : ℕ) → u < n → these u ≡ those u) → left_below m o E these n p ≡ left_below m o E those n p
  same these those zero f = refl
  same these those (suc n) f =
      let ih = same these those n (λ u l. f u (omega arith)) in
      let e = f n (omega arith) in cc

-- a place that is not done and precedes no place that is done can as well come last
module _ (m : Model) (o : Places) (E : Facts) (p : ℕ) (done : ℕ → Bool) (h : ℕ) (waits : done h ≡ false)
    (kind : (u : ℕ) → h < u → u < o.size → done u ≡ true → Disturb m (o.step h) (o.step u) → ⊥) where
  apart_add : (u : ℕ) → h < u → u < o.size → done u ≡ true → m.adds (o.step u) p ≡ true → m.deletes (o.step h) p ≡ true → ⊥
  apart_add u l k d a b = kind u l k d (inr (inl (p, b, inr a)))

  apart_del : (u : ℕ) → h < u → u < o.size → done u ≡ true → m.adds (o.step h) p ≡ true → m.deletes (o.step u) p ≡ true → ⊥
  apart_del u l k d a b = kind u l k d (inr (inr (p, b, inr a)))

  at_h : left_below m o E (with done h) (suc h) p ≡ after m (left_below m o E done (suc h)) (o.step h) p
  at_h =
      let e : left_below m o E (with done h) h p ≡ left_below m o E done h p = same m o E p (with done h) done h (λ u l. grind (arith, nat_tests)) in
      let t : with done h h ≡ true = grind (arith, nat_tests) in grind arith

  past_h : (n : ℕ) → h < n → n < o.size
      → left_below m o E (with done h) n p ≡ after m (left_below m o E done n) (o.step h) p
      → left_below m o E (with done h) (suc n) p ≡ after m (left_below m o E done (suc n)) (o.step h) p
  past_h n l k ih =
      let e : with done h n ≡ done n = grind (arith, nat_tests) in
      last_step (done n) (with done h n) (m.adds (o.step n) p) (m.deletes (o.step n) p) (m.adds (o.step h) p) (m.deletes (o.step h) p) _ _ e
      (apart_add n l k) (apart_del n l k) ih

  here : (n : ℕ) → h ≡ n → left_below m o E (with done h) (suc n) p ≡ after m (left_below m o E done (suc n)) (o.step h) p
  here n e = rw (← e) at_h

  pub last : (n : ℕ) → h < n → n ≤ o.size → left_below m o E (with done h) n p ≡ after m (left_below m o E done n) (o.step h) p
  last zero l k = absurd (omega arith)
  last (suc n) l k = elim (cases_lt h n) [ inl i ↦ past_h n i k (last n i (omega arith)) | inr i ↦ here n (omega arith) ]

-- the first of the places below n that are not done
pub first : (done : ℕ → Bool) (n : ℕ) → ((u : ℕ) → u < n → done u ≡ true) ⊎ ((h : ℕ) × (h < n) × (done h ≡ false) × ((u : ℕ) → u < h → done u ≡ true))
first done zero = inl (λ u l. absurd (omega arith))
first done (suc n) = elim (first done n) [ inr t ↦ inr (t.0, omega arith, t.2, t.3) | inl f ↦ elim (cases_Bool (done n)) [ inr e ↦ inr (n, omega arith, e, f) | inl e ↦ inl (λ u l. elim (cases_lt u n) [ inl i ↦ f u i | inr i ↦ (let q : n ≡ u = omega arith in rw q at e) ]) ] ]

pub independence : Independence
independence m o h k n f g d = search rules

-- in order, it is enough that the lower does not precede the higher
pub independent : (m : Model) (o : Places) → InOrder m o → (h k : ℕ) → h < k → k < o.size → (Precedes m o h k → ⊥)
    → Disturb m (o.step h) (o.step k) → ⊥
independent m o up h k l i f = independence m o h k (omega arith) f (λ q. omega (arith, up.upward k h i (omega arith) q))

pub needing : Needs
needing m o E fed done closed h lt waits ready p n =
    mono m o E p (under o.level (o.level h)) done o.size
    (λ u l below adds. ready u l (inr (ltb-true _ _ below, inr (inr (p, adds, n)))))
    (λ u l is deletes. grind (arith, nat_tests, closed h u lt l)) (fed h lt p n)

pub commuting : Commutation
commuting m o up E done closed h lt waits p =
    last m o E p done h waits (λ u l k d. independent m o up h u l k (λ q. both_ways _ waits (closed h u lt k q d))) o.size lt (omega arith)

pub progress : Progress
progress m o up done u l e =
    elim (first done o.size) [
      | inl f ↦ absurd (both_ways _ e (f u l))
      | inr t ↦ (t.0, t.1, t.2, λ v k q. t.3 v (up.upward v t.0 k t.1 q))
    ]

pub apart : Apart
apart m o done h k l i n e f r s = independence m o h k n (λ q. both_ways _ e (s h l q)) (λ q. both_ways _ f (r k i q))
