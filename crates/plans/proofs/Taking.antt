-- Taking a level's steps one by one, always the smallest free one: what a search that marks the steps left can rely on.
use Rattle.std.proofs.Common.{◌≡◌, ℕ, ◌<◌, Bool, true, false, not, ◌&&◌, eqb, List, [], ◌∷◌, ◌++◌, length, get_or, sym, refl, ap, ◌∙◌, subst, inl, inr, arith}
use Rattle.std.specs.List.{ContainsAt as Has}
use Rattle.std.specs.List.Sorted.{IsPermutation}
use Rattle.std.proofs.ByRecursion.{has_get_or, has_shuffled, all_shuffled}
use Rattle.std.proofs.lemmas.List.{append_assoc, append-nil}
use Rattle.std.proofs.lemmas.List.Sorted.{IsPermutation-refl, IsPermutation-cons, IsPermutation-trans, IsPermutation-sym}
use Rattle.std.proofs.lemmas.Bool.{cases_order, both_ways, ne_eqb, eqb-false, and_parts, not-true, and_from, not_from_false}
use Rattle.books.specs.Book.{Model}
use Rattle.plans.specs.Steps.{Authorizes}
use Rattle.plans.specs.Plans.{Distinct, Ascending, Authorized}
use Rattle.plans.specs.Order.{Free, Leads, SmallestFirst, Picked}
use Rattle.plans.proofs.Members.{has_first, take_out, out, still_in, was_in, pairwise_get_or, distinct_from_ascending}
use Rattle.plans.proofs.Picks.{free_among, leads, refusing}

shuffled_after : (bs xs ys : List ℕ) → IsPermutation xs ys → IsPermutation (bs ++ xs) (bs ++ ys)
shuffled_after [] xs ys s = s
shuffled_after (b ∷ bs) xs ys s = IsPermutation-cons b (bs ++ xs) (bs ++ ys) (shuffled_after bs xs ys s)

-- each of bs leads those of bs after it and rest
abbrev pub Led : Model → List ℕ → List ℕ → Type 0
Led m [] rest = Unit {0}
Led m (b ∷ bs) rest = Leads m b (bs ++ rest) × Led m bs rest

-- of the level xs the steps bs are taken, in this order, and rest is left
pub record SoFar (m : Model) (xs bs rest : List ℕ) : Type 0 where
  pub whole : IsPermutation xs (bs ++ rest)
  pub led : Led m bs rest

module _ (m : Model) where
  leads_shuffled : (a : ℕ) (xs ys : List ℕ) → IsPermutation xs ys → Leads m a xs → Leads m a ys
  leads_shuffled a xs ys s w =
      let back = IsPermutation-sym xs ys s in
      record {
        ready = all_shuffled (Authorizes m a) xs ys s w.ready;
        smallest = λ b h l f. w.smallest b (has_shuffled ys xs b back h) l (free_among m (a ∷ ys) (a ∷ xs) b (λ c. has_shuffled (a ∷ xs) (a ∷ ys) c (IsPermutation-cons a xs ys s)) f);
      }

  led_more : (bs rest : List ℕ) (a : ℕ) (left : List ℕ) → IsPermutation rest (a ∷ left) → Leads m a left → Led m bs rest → Led m (bs ++ a ∷ []) left
  led_more [] rest a left s w l = (w, tt)
  led_more (b ∷ bs) rest a left s w l = (
    leads_shuffled b (bs ++ rest) (bs ++ a ∷ [] ++ left) (subst (IsPermutation (bs ++ rest)) (sym (append_assoc bs (a ∷ []) left)) (shuffled_after bs rest (a ∷ left) s)) l.0,
    led_more bs rest a left s w l.1,
  )

  led_all : (bs : List ℕ) → Led m bs [] → SmallestFirst m bs
  led_all [] l = tt
  led_all (b ∷ bs) l = (subst (Leads m b) (append-nil bs) l.0, led_all bs l.1)

  pub so_far_none : (xs : List ℕ) → SoFar m xs [] xs
  so_far_none xs = record { whole = IsPermutation-refl xs; led = tt }

  pub so_far_more : (xs bs rest : List ℕ) (a : ℕ) (left : List ℕ) → SoFar m xs bs rest → IsPermutation rest (a ∷ left) → Leads m a left → SoFar m xs (bs ++ a ∷ []) left
  so_far_more xs bs rest a left t s w = record {
    whole = IsPermutation-trans xs (bs ++ rest) (bs ++ a ∷ [] ++ left) t.whole
        (subst (IsPermutation (bs ++ rest)) (sym (append_assoc bs (a ∷ []) left)) (shuffled_after bs rest (a ∷ left) s));
    led = led_more bs rest a left s w t.led;
  }

  pub so_far_all : (xs bs : List ℕ) → SoFar m xs bs [] → Picked m xs bs
  so_far_all xs bs t = record { shuffled = subst (IsPermutation xs) (append-nil bs) t.whole; first = led_all bs t.led }

-- the step at i authorizes every other that waits
abbrev pub FreeAt : Model → List ℕ → (ℕ → Bool) → ℕ → Type 0
FreeAt m xs waits i = (j : ℕ) → j < length xs → waits j ≡ true → (i ≡ j → ⊥) → Authorizes m (get_or xs i 0) (get_or xs j 0)

-- of the ascending level xs the steps bs are taken, in this order, and the steps at the positions that wait are left
pub record Taking (m : Model) (xs : List ℕ) (waits : ℕ → Bool) (bs : List ℕ) : Type 0 where
  pub rest : List ℕ
  pub so_far : SoFar m xs bs rest
  pub distinct : Distinct rest
  pub holds : (i : ℕ) → i < length xs → waits i ≡ true → Has rest (get_or xs i 0)
  pub only : (b : ℕ) → Has rest b → (i : ℕ) × (i < length xs) × (waits i ≡ true) × (get_or xs i 0 ≡ b)

-- nothing is left
nothing : (xs : List ℕ) → ((a : ℕ) → Has xs a → ⊥) → xs ≡ []
nothing [] f = refl
nothing (x ∷ xs) f = absurd (f x (has_first x xs))

module _ (m : Model) (xs : List ℕ) (up : Ascending xs) where
  -- positions of ascending steps
  same_position : (i j : ℕ) → i < length xs → j < length xs → get_or xs i 0 ≡ get_or xs j 0 → i ≡ j
  same_position i j k l e =
      elim (cases_order i j) [
        | inl q ↦ q
        | inr (inl n) ↦ absurd (omega (arith, pairwise_get_or (λ a b. a < b) xs up i j 0 n l))
        | inr (inr n) ↦ absurd (omega (arith, pairwise_get_or (λ a b. a < b) xs up j i 0 n k))
      ]

  lower_position : (i j : ℕ) → i < length xs → j < length xs → get_or xs i 0 < get_or xs j 0 → i < j
  lower_position i j k l e =
      elim (cases_order i j) [
        | inl q ↦ absurd (omega (arith, ap (λ n. get_or xs n 0) q))
        | inr (inl n) ↦ n
        | inr (inr n) ↦ absurd (omega (arith, pairwise_get_or (λ a b. a < b) xs up j i 0 n k))
      ]

  pub taking_none : (waits : ℕ → Bool) → ((i : ℕ) → i < length xs → waits i ≡ true) → Taking m xs waits []
  taking_none waits f = record {
    rest = xs;
    so_far = so_far_none m xs;
    distinct = distinct_from_ascending xs up;
    holds = λ i k e. has_get_or xs i 0 k;
    only = λ b h. (h.0, h.1, f h.0 h.1, h.2 0);
  }

  pub taking_all : (waits : ℕ → Bool) (bs : List ℕ) → Taking m xs waits bs → ((i : ℕ) → i < length xs → waits i ≡ false) → Picked m xs bs
  taking_all waits bs t f =
      let e = nothing t.rest (λ a h. let w = t.only a h in both_ways _ (f w.0 w.1) w.2) in
      so_far_all m xs bs (subst (SoFar m xs bs) e t.so_far)

  module _ (waits : ℕ → Bool) (bs : List ℕ) (t : Taking m xs waits bs) where
    -- free by position, and free among what is left
    free_left : (i : ℕ) → FreeAt m xs waits i → Free m t.rest (get_or xs i 0)
    free_left i f b h n =
        let w = t.only b h in
        subst (Authorizes m (get_or xs i 0)) w.3 (f w.0 w.1 w.2 (λ q. n (ap (λ k. get_or xs k 0) q ∙ w.3)))

    free_at : (i : ℕ) → i < length xs → Free m t.rest (get_or xs i 0) → FreeAt m xs waits i
    free_at i k f j l e n = f (get_or xs j 0) (t.holds j l e) (λ q. n (same_position i j k l q))

    pub taking_stuck : (i : ℕ) → i < length xs → waits i ≡ true → ((j : ℕ) → j < length xs → waits j ≡ true → FreeAt m xs waits j → ⊥) → Authorized m xs → ⊥
    taking_stuck i k e f =
        refusing m xs bs t.rest t.so_far.whole (get_or xs i 0) (t.holds i k e)
        (λ b h g. let w = t.only b h in f w.0 w.1 w.2 (free_at w.0 w.1 (subst (Free m t.rest) (sym w.3) g)))

    pub taking_more : (i : ℕ) → i < length xs → waits i ≡ true → FreeAt m xs waits i → ((j : ℕ) → j < i → waits j ≡ true → FreeAt m xs waits j → ⊥)
        → (after : ℕ → Bool) → ((j : ℕ) → j < length xs → after j ≡ (waits j && not (eqb j i))) → Taking m xs after (bs ++ get_or xs i 0 ∷ [])
    taking_more i k e f least after is =
        let a = get_or xs i 0 in
        let r = take_out (λ x y. x ≡ y → ⊥) t.rest a (t.holds i k e) in
        let s = r.1.0 in
        let gone = out t.rest a r.0 s t.distinct in
        record {
          rest = r.0;
          so_far = so_far_more m xs bs t.rest a r.0 t.so_far s (leads m t.rest a r.0 s gone (free_left i f)
              (λ b h l g. let w = t.only b h in least w.0 (lower_position w.0 i w.1 k (omega (arith, w.3))) w.2 (free_at w.0 w.1 (subst (Free m t.rest) (sym w.3) g))));
          distinct = r.1.1 t.distinct;
          holds = λ j l d. (let p = and_parts (waits j) (not (eqb j i)) (sym (is j l) ∙ d) in
              still_in t.rest a r.0 s (get_or xs j 0) (t.holds j l p.0) (λ q. eqb-false j i (not-true _ p.1) (sym (same_position i j k l q))));
          only = λ b h. (let w = t.only b (was_in t.rest a r.0 s b h) in
              (w.0, w.1, is w.0 w.1 ∙ and_from _ _ w.2 (not_from_false _ (ne_eqb w.0 i (λ q. gone (subst (Has r.0) (sym w.3 ∙ ap (λ n. get_or xs n 0) q) h)))), w.3));
        }
