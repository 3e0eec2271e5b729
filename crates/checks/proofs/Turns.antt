-- The turns of a level: rows of positions show which step is free, and the draft grows by the steps taken.
use Rattle.std.proofs.Common.{◌≡◌, ℕ, ◌-◌, ◌<◌, Bool, true, not, ◌&&◌, eqb, List, [], ◌∷◌, ◌++◌, length, get_or, sym, refl, ap, ap₂, ◌∙◌, subst, inl, inr, arith, length-append}
use Rattle.std.specs.List.{ContainsAt as Has, HoldsAt}
use Rattle.std.specs.List.Sorted.{IsPermutation}
use Rattle.std.proofs.lemmas.List.{get_or_append_left, get_or-append_right, append-nil, append_assoc, map-append}
use Rattle.std.proofs.lemmas.List.Sorted.{length_permutation}
use Rattle.std.proofs.lemmas.Bool.{cases_lt, cases_order, cases_Bool, both_ways, and_from, and_parts}
use Rattle.facts.specs.Sets.{holds}
use Rattle.facts.specs.declared.NumberSet.{NumberSet}
use Rattle.books.specs.Book.{Model}
use Rattle.books.specs.Gathered.{Gathers}
use Rattle.plans.specs.Steps.{Authorizes}
use Rattle.plans.specs.Plans.{Ascending, Authorized}
use Rattle.plans.specs.Order.{Picked}
use Rattle.plans.proofs.Members.{has_first, pairwise_get_or}
use Rattle.plans.proofs.Taking.{FreeAt, Taking, taking_all, taking_stuck, taking_more}
use Rattle.checks.specs.Drafts.{Told}
use Rattle.checks.specs.Levels.{Rowed, ReadyAt, Grown}
use Rattle.checks.specs.declared.draft.PlacedStep.{PlacedStep}

authorizes_stable : (m : Model) (u v : ℕ) → ((Authorizes m u v → ⊥) → ⊥) → Authorizes m u v
authorizes_stable m u v f = record {
  other = λ e. f (λ w. w.other e);
  adding = λ p a d. f (λ w. w.adding p a d);
  deleting = λ p d a. f (λ w. w.deleting p d a);
}

-- ascending steps at different positions differ
apart_positions : (xs : List ℕ) → Ascending xs → (i j : ℕ) → i < length xs → j < length xs → (i ≡ j → ⊥) → get_or xs i 0 ≡ get_or xs j 0 → ⊥
apart_positions xs up i j k l n e =
    elim (cases_order i j) [
      | inl q ↦ n q
      | inr (inl s) ↦ omega (arith, pairwise_get_or (λ a b. a < b) xs up i j 0 s l)
      | inr (inr s) ↦ omega (arith, pairwise_get_or (λ a b. a < b) xs up j i 0 s k)
    ]

-- as long as steps are missing, one is left
some_left : (xs bs rest : List ℕ) → IsPermutation xs (bs ++ rest) → length bs < length xs → (b : ℕ) × Has rest b
some_left xs bs [] s l = absurd (omega (arith, length_permutation xs (bs ++ []) s, length-append bs []))
some_left xs bs (b ∷ rest) s l = (b, has_first b rest)

module _ (m : Model) (xs : List ℕ) (up : Ascending xs) (rows : List (NumberSet 4)) (rowed : Rowed m xs rows) (left : NumberSet 4) where
  ready_free : (i : ℕ) → i < length xs → ReadyAt left rows i → FreeAt m xs (holds left.words) i
  ready_free i l r j k e n =
      authorizes_stable m (get_or xs i 0) (get_or xs j 0)
      (λ f. both_ways _ (r.1 left j) (and_from _ _ ((rowed i l left j).1 (k, record { differ = λ q. apart_positions xs up i j l k n (sym q); refused = f })) e))

  free_ready : (i : ℕ) → i < length xs → holds left.words i ≡ true → FreeAt m xs (holds left.words) i → ReadyAt left rows i
  free_ready i l e f = (
    e,
    λ d q. elim (cases_Bool (holds (get_or rows i d).words q && holds left.words q)) [
      | inr s ↦ s
      | inl s ↦ (let p = and_parts _ _ s in let w = (rowed i l d q).0 p.0 in
          absurd (w.1.refused (f q w.0 p.1 (λ n. w.1.differ (ap (λ k. get_or xs k 0) (sym n))))))
    ],
  )

  module _ (bs : List ℕ) (t : Taking m xs (holds left.words) bs) where
    pub turn_more : (i : ℕ) → i < length xs → ReadyAt left rows i → ((j : ℕ) → j < i → ReadyAt left rows j → ⊥)
        → (after : NumberSet 4) → ((q : ℕ) → holds after.words q ≡ (holds left.words q && not (eqb q i))) → Taking m xs (holds after.words) (bs ++ get_or xs i 0 ∷ [])
    turn_more i l r least after is =
        taking_more m xs up (holds left.words) bs t i l r.0 (ready_free i l r) (λ j k e f. least j k (free_ready j (omega arith) e f)) (holds after.words) (λ j k. is j)

    pub turn_stuck : length bs < length xs → ((i : ℕ) → i < length xs → ReadyAt left rows i → ⊥) → Authorized m xs → ⊥
    turn_stuck n f =
        let b = some_left xs bs t.rest t.so_far.whole n in
        let w = t.only b.0 b.1 in
        taking_stuck m xs up (holds left.words) bs t w.0 w.1 w.2 (λ j k e g. f j k (free_ready j k e g))

-- where no step is missing, none is left
pub turns_all : (m : Model) (xs : List ℕ) → Ascending xs → (waits : ℕ → Bool) (bs : List ℕ) → Taking m xs waits bs → length bs ≡ length xs → Picked m xs bs
turns_all m xs up waits bs t e =
    taking_all m xs up waits bs t
    (λ i l. elim (cases_Bool (waits i)) [
      | inr s ↦ s
      | inl s ↦ (let h = t.holds i l s in absurd (omega (arith, h.1, length_permutation xs (bs ++ t.rest) t.so_far.whole, length-append bs t.rest)))
    ])

-- what holds at each place of two lists holds at each of both together
pub holds_append : {X : Type 0} (P : X → Type 0) (xs ys : List X) → ((u : ℕ) → u < length xs → HoldsAt P xs u) → ((u : ℕ) → u < length ys → HoldsAt P ys u)
    → (u : ℕ) → u < length (xs ++ ys) → HoldsAt P (xs ++ ys) u
holds_append P xs ys f g u l d =
    elim (cases_lt u (length xs)) [
      | inl k ↦ subst P (sym (get_or_append_left xs ys d u k)) (f u k d)
      | inr k ↦ subst P (sym (get_or-append_right xs ys (length xs) u d refl k)) (g (u - length xs) (omega (arith, length-append xs ys)) d)
    ]

module _ (m : Model) where
  pub told_more : (d : List PlacedStep) (s : PlacedStep) → Told m d → Gathers m s.place.step s.facts → Told m (d ++ s ∷ [])
  told_more d s t h = holds_append (λ s. Gathers m s.place.step s.facts) d (s ∷ []) t (λ u l x. let e : u ≡ 0 = omega arith in rw e h)

  module _ (number : ℕ) where
    pub grown_none : (d : List PlacedStep) → Grown m [] number d d
    grown_none d = record { added = []; after = sym (append-nil d); places = refl; told = λ u l. absurd (omega arith) }

    pub grown_more : (bs : List ℕ) (a : ℕ) (s : PlacedStep) (old mid : List PlacedStep) → Grown m bs number old mid → s.place ≡ record { step = a; level = number }
        → Gathers m s.place.step s.facts → Grown m (bs ++ a ∷ []) number old (mid ++ s ∷ [])
    grown_more bs a s old mid g e h = record {
      added = g.added ++ s ∷ [];
      after = ap (λ d. d ++ s ∷ []) g.after ∙ append_assoc old g.added (s ∷ []);
      places = map-append (λ (x : PlacedStep). x.place) g.added (s ∷ []) ∙ ap₂ ◌++◌ g.places (ap (λ p. p ∷ []) e)
          ∙ sym (map-append (λ b. record { step = b; level = number }) bs (a ∷ []));
      told = told_more g.added s g.told h;
    }
