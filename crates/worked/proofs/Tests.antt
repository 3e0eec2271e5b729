-- Tests that decide what is asked of plans of a lawful book, so that an example is shown by computing them.
use Rattle.std.proofs.Common.{◌≡◌, ℕ, zero, suc, ◌<◌, ◌≤◌, Bool, true, false, cond, not, ◌&&◌, ◌||◌, eqb, ltb, ◌⊎◌, List, [], ◌∷◌, Decides, sym, refl, ◌∙◌, subst, inl, inr, arith}
use Rattle.std.specs.List.{ContainsAt as Has, AllByRecursion}
use Rattle.std.specs.List.Sorted.{IsPermutation}
use Rattle.std.proofs.ByRecursion.{all-has, all_has_itself, All-weaker, has_shuffled, Decides-by_and}
use Rattle.std.proofs.lemmas.List.Sorted.{IsPermutation-refl, IsPermutation-cons, IsPermutation-trans, IsPermutation-middle, length_permutation}
use Rattle.std.proofs.lemmas.Bool.{cases_lt, cases_eq, cond_both, both_ways, and_from, and_parts, not-true, eqb-true, eqb-false, or_cases, or_parts}
use Rattle.std.proofs.lemmas.Bool.Decides.{Decides-eqb, Decides-ltb, Decides-not, Decides-and, Decides-or, Decides-like, Decides-below_and, Decides-below_or}
use Rattle.books.specs.Book.{Model, Lawful, Facts}
use Rattle.books.specs.Listed.{listed}
use Rattle.plans.specs.Steps.{Authorizes, Feeds, Met, passed}
use Rattle.plans.specs.Plans.{AuthorizedOrder, Authorized, Recognized}
use Rattle.plans.specs.Order.{Free, Leads, SmallestFirst, Picked}
use Rattle.plans.proofs.Members.{has_none, has_first, has_more, has_cases}
use Rattle.plans.proofs.Picks.{turning, refusing}
use Rattle.plans.proofs.Preceding.{decides_authorizes, decides_feeds}

-- a set with no fact from n on
abbrev pub Within : ℕ → Facts → Type 0
Within n f = (p : ℕ) → n ≤ p → f p ≡ false

-- a test of every number below n, and of every number of a list
abbrev pub below : (ℕ → Bool) → ℕ → Bool
below f zero = true
below f (suc n) = f n && below f n

abbrev pub every : (ℕ → Bool) → List ℕ → Bool
every f [] = true
every f (x ∷ xs) = f x && every f xs

-- a test that passes at some number below n
abbrev pub exists : (ℕ → Bool) → ℕ → Bool
exists f zero = false
exists f (suc n) = f n || exists f n

-- whether some fact below n is in both sets
abbrev pub shared : ℕ → Facts → Facts → Bool
shared zero f g = false
shared (suc n) f g = (f n && g n) || shared n f g

pub decides_true : (b : Bool) → Decides b (b ≡ true)
decides_true b = (λ e. e, λ e. e)

pub decides_below : (f : ℕ → Bool) (P : ℕ → Type 0) → ((k : ℕ) → Decides (f k) (P k)) → (n : ℕ) → Decides (below f n) ((k : ℕ) → k < n → P k)
decides_below f P each n = Decides-below_and f P (below f) each refl (λ _. refl) n

pub decides_every : (f : ℕ → Bool) (P : ℕ → Type 0) → ((k : ℕ) → Decides (f k) (P k)) → (xs : List ℕ) → Decides (every f xs) (AllByRecursion P xs)
decides_every f P each xs = Decides-by_and f P (every f) each refl (λ _ _. refl) xs

pub decides_exists : (f : ℕ → Bool) (n : ℕ) → Decides (exists f n) ((k : ℕ) × (k < n) × (f k ≡ true))
decides_exists f n = Decides-below_or f (λ k. f k ≡ true) (exists f) (λ k. decides_true (f k)) refl (λ _. refl) n

pub decides_shared : (n : ℕ) (f g : Facts) → Within n f → Decides (shared n f g) ((p : ℕ) × ((f p && g p) ≡ true))
decides_shared n f g none =
    Decides-like (shared n f g) (λ t. (t.0, t.2))
    (λ t. elim (cases_lt t.0 n) [ inl l ↦ (t.0, l, t.1) | inr l ↦ absurd (both_ways _ (none t.0 l) (and_parts _ _ t.1).0) ])
    (Decides-below_or (λ p. f p && g p) (λ p. (f p && g p) ≡ true) (λ k. shared k f g) (λ k. decides_true (f k && g k)) refl (λ _. refl) n)

-- xs without the first a
abbrev pub without : ℕ → List ℕ → List ℕ
without a [] = []
without a (x ∷ xs) = cond (eqb a x) xs (x ∷ without a xs)

-- whether bs has the same steps as xs, each as often
abbrev pub reorders : List ℕ → List ℕ → Bool
reorders [] [] = true
reorders (x ∷ xs) [] = false
reorders xs (b ∷ bs) = listed xs b && reorders (without b xs) bs

module _ (m : Model) where
  abbrev pub authorizes : ℕ → ℕ → Bool
  authorizes u v = not (eqb u v) && not (shared m.facts (m.adds u) (m.deletes v) || shared m.facts (m.deletes u) (m.needs v))

  abbrev pub feeds : ℕ → ℕ → Bool
  feeds u v = shared m.facts (m.adds u) (m.needs v)

  abbrev pub met : Facts → ℕ → Bool
  met E a = not (shared m.facts (m.needs a) (λ p. not (E p)))

  -- whether a authorizes every other step of xs
  abbrev pub free : List ℕ → ℕ → Bool
  free xs a = every (λ b. eqb a b || authorizes a b) xs

  abbrev pub leads : ℕ → List ℕ → Bool
  leads a rest = every (authorizes a) rest && every (λ b. not (ltb b a && free (a ∷ rest) b)) rest

  abbrev pub smallest_first : List ℕ → Bool
  smallest_first [] = true
  smallest_first (a ∷ rest) = leads a rest && smallest_first rest

  -- whether bs is the picked order of xs
  abbrev pub picks : List ℕ → List ℕ → Bool
  picks xs bs = reorders xs bs && smallest_first bs

  -- whether the levels pass, of which these are the picked orders
  abbrev pub recognizes : Facts → List (List ℕ) → List (List ℕ) → Bool
  recognizes E [] orders = true
  recognizes E (xs ∷ rest) [] = false
  recognizes E (xs ∷ rest) (bs ∷ orders) = every (met E) xs && (picks xs bs && recognizes (passed m E xs) rest orders)

pub has_shown : (xs : List ℕ) (a : ℕ) → listed xs a ≡ true → Has xs a
has_shown [] a e = absurd (both_ways false refl e)
has_shown (x ∷ xs) a e =
    elim (or_cases _ _ e) [ inl t ↦ (rw (eqb-true a x t) (has_first x xs)) | inr t ↦ has_more x xs a (has_shown xs a t) ]

swapped : (a x : ℕ) (xs rest : List ℕ) → IsPermutation xs (a ∷ rest) → IsPermutation (x ∷ xs) (a ∷ x ∷ rest)
swapped a x xs rest s =
    IsPermutation-trans (x ∷ xs) (x ∷ a ∷ rest) (a ∷ x ∷ rest) (IsPermutation-cons x xs (a ∷ rest) s)
    (IsPermutation-middle (x ∷ []) a rest)

pub without_shuffled : (a : ℕ) (xs : List ℕ) → listed xs a ≡ true → IsPermutation xs (a ∷ without a xs)
without_shuffled a [] e = absurd (both_ways false refl e)
without_shuffled a (x ∷ xs) e =
    cond_both (eqb a x) xs (x ∷ without a xs) (λ rest. IsPermutation (x ∷ xs) (a ∷ rest))
    (λ h. rw (eqb-true a x h) (IsPermutation-refl (x ∷ xs)))
    (λ h. swapped a x xs (without a xs) (without_shuffled a xs (elim (or_cases _ _ e) [ inl t ↦ absurd (both_ways _ h t) | inr t ↦ t ])))

pub shuffled_shown : (xs bs : List ℕ) → reorders xs bs ≡ true → IsPermutation xs bs
shuffled_shown [] [] e = IsPermutation-refl []
shuffled_shown (x ∷ xs) [] e = absurd (both_ways false refl e)
shuffled_shown xs (b ∷ bs) e =
    let t = and_parts _ _ e in
    IsPermutation-trans xs (b ∷ without b xs) (b ∷ bs) (without_shuffled b xs t.0) (IsPermutation-cons b (without b xs) bs (shuffled_shown (without b xs) bs t.1))

module _ (m : Model) (law : Lawful m) where
  pub authorizes_decides : (u v : ℕ) → Decides (authorizes m u v) (Authorizes m u v)
  authorizes_decides u v =
      let apart = Decides-not (eqb u v) (Decides-eqb u v) in
      let adding = decides_shared m.facts (m.adds u) (m.deletes v) (law.adds.no_fact u) in
      let deleting = decides_shared m.facts (m.deletes u) (m.needs v) (law.deletes.no_fact u) in (
        λ e. (let t = and_parts _ _ e in (decides_authorizes m u v _ _ (apart.0 t.0) adding deleting).0 t.1),
        λ w. and_from _ _ (apart.1 w.other) ((decides_authorizes m u v _ _ w.other adding deleting).1 w),
      )

  pub feeds_decides : (u v : ℕ) → Decides (feeds m u v) (Feeds m u v)
  feeds_decides u v = decides_feeds m u v _ (decides_shared m.facts (m.adds u) (m.needs v) (law.adds.no_fact u))

  lacking : (x y : Bool) → (x ≡ true → y ≡ true) → (x && not y) ≡ true → ⊥
  lacking x y f e = let t = and_parts _ _ e in both_ways y (not-true y t.1) (f t.0)

  holding : (x y : Bool) → ((x && not y) ≡ true → ⊥) → x ≡ true → y ≡ true
  holding x true f e = refl
  holding x false f e = absurd (f (and_from x true e refl))

  pub met_decides : (E : Facts) (a : ℕ) → Decides (met m E a) (Met m E a)
  met_decides E a =
      Decides-like (met m E a) (λ f p e. holding (m.needs a p) (E p) (λ h. f (p, h)) e) (λ f t. lacking _ _ (f t.0) t.1)
      (Decides-not _ (decides_shared m.facts (m.needs a) (λ p. not (E p)) (law.needs.no_fact a)))

  pub free_decides : (xs : List ℕ) (a : ℕ) → Decides (free m xs a) (Free m xs a)
  free_decides xs a =
      Decides-like (free m xs a)
      (λ t b h n. elim (all-has (λ b. (a ≡ b) ⊎ Authorizes m a b) xs b t h) [ inl e ↦ absurd (n e) | inr w ↦ w ])
      (λ f. All-weaker (Has xs) (λ b. (a ≡ b) ⊎ Authorizes m a b) (λ b h. elim (cases_eq a b) [ inl e ↦ inl e | inr n ↦ inr (f b h n) ]) xs (all_has_itself xs))
      (decides_every (λ b. eqb a b || authorizes m a b) (λ b. (a ≡ b) ⊎ Authorizes m a b) (λ b. Decides-or _ _ (Decides-eqb a b) (authorizes_decides a b)) xs)

  pub leads_shown : (a : ℕ) (rest : List ℕ) → leads m a rest ≡ true → Leads m a rest
  leads_shown a rest e =
      let t = and_parts _ _ e in
      let small = (decides_every (λ b. not (ltb b a && free m (a ∷ rest) b)) (λ b. (b < a) × Free m (a ∷ rest) b → ⊥) (λ b. Decides-not _ (Decides-and _ _ (Decides-ltb b a) (free_decides (a ∷ rest) b))) rest).0 t.1 in
      record {
        ready = (decides_every (authorizes m a) (Authorizes m a) (authorizes_decides a) rest).0 t.0;
        smallest = λ b h l f. all-has (λ b. (b < a) × Free m (a ∷ rest) b → ⊥) rest b small h (l, f);
      }

  pub first_shown : (bs : List ℕ) → smallest_first m bs ≡ true → SmallestFirst m bs
  first_shown [] e = tt
  first_shown (a ∷ rest) e = let t = and_parts _ _ e in (leads_shown a rest t.0, first_shown rest t.1)

  pub picked_shown : (xs bs : List ℕ) → picks m xs bs ≡ true → Picked m xs bs
  picked_shown xs bs e = let t = and_parts _ _ e in record { shuffled = shuffled_shown xs bs t.0; first = first_shown bs t.1 }

  pub authorized_shown : (xs bs : List ℕ) → picks m xs bs ≡ true → Authorized m xs
  authorized_shown xs bs e = let k = picked_shown xs bs e in (bs, record { shuffled = k.shuffled; turn = turning m xs bs k })

  -- of two steps, the second does not authorize the first
  pub only_order : (x y : ℕ) → (eqb x y || authorizes m y x) ≡ false → (bs : List ℕ) → AuthorizedOrder m (x ∷ y ∷ []) bs → bs ≡ x ∷ y ∷ []
  only_order x y e [] w = absurd (omega (arith, length_permutation _ _ w.shuffled))
  only_order x y e (a ∷ []) w = absurd (omega (arith, length_permutation _ _ w.shuffled))
  only_order x y e (a ∷ b ∷ c ∷ bs) w = absurd (omega (arith, length_permutation _ _ w.shuffled))
  only_order x y e (a ∷ b ∷ []) w =
      let t = or_parts _ _ e in
      let differ = eqb-false x y t.0 in
      let s = w.shuffled in
      elim (has_cases a (b ∷ []) x (has_shuffled _ _ x s (has_first x (y ∷ [])))) [
        | inl ax ↦ elim (has_cases a (b ∷ []) y (has_shuffled _ _ y s (has_more x (y ∷ []) y (has_first y [])))) [
          | inl ay ↦ absurd (differ (sym ax ∙ ay))
          | inr h ↦ elim (has_cases b [] y h) [ inl by ↦ (rw (ax, by) refl) | inr i ↦ absurd (has_none y i) ]
        ]
        | inr h ↦ elim (has_cases b [] x h) [
          | inl bx ↦ elim (has_cases a (b ∷ []) y (has_shuffled _ _ y s (has_more x (y ∷ []) y (has_first y [])))) [
            | inl ay ↦ absurd (both_ways _ t.1 ((authorizes_decides y x).1 (subst (λ c. Authorizes m c x) ay (subst (λ c. Authorizes m a c) bx w.turn.0.0))))
            | inr i ↦ elim (has_cases b [] y i) [ inl by ↦ absurd (differ (sym bx ∙ by)) | inr j ↦ absurd (has_none y j) ]
          ]
          | inr i ↦ absurd (has_none x i)
        ]
      ]

  -- no step of the level authorizes every other
  pub refused_shown : (x : ℕ) (xs : List ℕ) → every (λ b. not (free m (x ∷ xs) b)) (x ∷ xs) ≡ true → Authorized m (x ∷ xs) → ⊥
  refused_shown x xs e =
      let none = (decides_every (λ b. not (free m (x ∷ xs) b)) (λ b. Free m (x ∷ xs) b → ⊥) (λ b. Decides-not _ (free_decides (x ∷ xs) b)) (x ∷ xs)).0 e in
      refusing m (x ∷ xs) [] (x ∷ xs) (IsPermutation-refl (x ∷ xs)) x (has_first x xs) (λ b h. all-has (λ b. Free m (x ∷ xs) b → ⊥) (x ∷ xs) b none h)

  pub met_shown : (E : Facts) (xs : List ℕ) → every (met m E) xs ≡ true → AllByRecursion (Met m E) xs
  met_shown E xs e = (decides_every (met m E) (Met m E) (met_decides E) xs).0 e

  pub recognized_shown : (E : Facts) (plan orders : List (List ℕ)) → recognizes m E plan orders ≡ true → Recognized m E plan
  recognized_shown E [] orders e = tt
  recognized_shown E (xs ∷ rest) [] e = absurd (both_ways false refl e)
  recognized_shown E (xs ∷ rest) (bs ∷ orders) e =
      let t = and_parts _ _ e in
      let u = and_parts _ _ t.1 in
      (record { met = met_shown E xs t.0; authorized = authorized_shown xs bs u.0 }, recognized_shown (passed m E xs) rest orders u.1)
