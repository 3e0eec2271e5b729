-- Whether a step authorizes or feeds another, and which step of a list is free, can be found out in a lawful book.
use Rattle.std.proofs.Common.{◌≡◌, ℕ, zero, suc, ◌<◌, true, ◌⊎◌, List, [], ◌∷◌, sym, ◌∙◌, inl, inr, arith}
use Rattle.std.specs.List.{ContainsAt as Has}
use Rattle.std.proofs.lemmas.Bool.{cases_eq, cases_lt, cases_Bool, both_ways}
use Rattle.books.specs.Book.{Model, Lawful, Facts}
use Rattle.plans.specs.Steps.{Authorizes, Feeds}
use Rattle.plans.specs.Order.{Before, Free}
use Rattle.plans.proofs.Members.{has_none, has_first, has_more, has_cases}

-- a fact below n that is in both sets, or none
meet : (f g : Facts) (n : ℕ) → ((p : ℕ) × (f p ≡ true) × (g p ≡ true)) ⊎ ((p : ℕ) → p < n → f p ≡ true → g p ≡ true → ⊥)
meet f g zero = inr (λ p l. absurd (omega arith))
meet f g (suc n) =
    elim (meet f g n) [
      | inl t ↦ inl t
      | inr r ↦ elim (cases_Bool (f n)) [
        | inl e ↦ elim (cases_Bool (g n)) [
          | inl d ↦ inl (n, e, d)
          | inr d ↦ inr (λ p l a b. elim (cases_lt p n) [ inl k ↦ r p k a b | inr k ↦ (let q : p ≡ n = omega arith in both_ways _ d (rw (← q) b)) ])
        ]
        | inr e ↦ inr (λ p l a b. elim (cases_lt p n) [ inl k ↦ r p k a b | inr k ↦ (let q : p ≡ n = omega arith in both_ways _ e (rw (← q) a)) ])
      ]
    ]

module _ (m : Model) (law : Lawful m) where
  -- it is enough to look at the facts that there are
  pub authorizes_below : (u v : ℕ) → (u ≡ v → ⊥) → ((p : ℕ) → p < m.facts → m.adds u p ≡ true → m.deletes v p ≡ true → ⊥)
      → ((p : ℕ) → p < m.facts → m.deletes u p ≡ true → m.needs v p ≡ true → ⊥) → Authorizes m u v
  authorizes_below u v n f g = record {
    other = n;
    adding = λ p a d. elim (cases_lt p m.facts) [ inl l ↦ f p l a d | inr l ↦ both_ways _ (law.adds.no_fact u p l) a ];
    deleting = λ p d a. elim (cases_lt p m.facts) [ inl l ↦ g p l d a | inr l ↦ both_ways _ (law.deletes.no_fact u p l) d ];
  }

  pub authorizes_or_not : (u v : ℕ) → Authorizes m u v ⊎ (Authorizes m u v → ⊥)
  authorizes_or_not u v =
      elim (cases_eq u v) [
        | inl q ↦ inr (λ w. w.other q)
        | inr n ↦ elim (meet (m.adds u) (m.deletes v) m.facts) [
          | inl t ↦ inr (λ w. w.adding t.0 t.1 t.2)
          | inr f ↦ elim (meet (m.deletes u) (m.needs v) m.facts) [
            | inl t ↦ inr (λ w. w.deleting t.0 t.1 t.2)
            | inr g ↦ inl (authorizes_below u v n f g)
          ]
        ]
      ]

  pub feeds_or_not : (u v : ℕ) → Feeds m u v ⊎ (Feeds m u v → ⊥)
  feeds_or_not u v =
      elim (meet (m.adds u) (m.needs v) m.facts) [
        | inl t ↦ inl t
        | inr f ↦ inr (λ t. elim (cases_lt t.0 m.facts) [ inl l ↦ f t.0 l t.1 t.2 | inr l ↦ both_ways _ (law.adds.no_fact u t.0 l) t.1 ])
      ]

  -- a is free among xs, or a step of xs is before it
  pub free_or_before : (a : ℕ) (xs : List ℕ) → Free m xs a ⊎ ((b : ℕ) × Has xs b × Before m b a)
  free_or_before a [] = inl (λ b h. absurd (has_none b h))
  free_or_before a (x ∷ xs) =
      elim (free_or_before a xs) [
        | inr t ↦ inr (t.0, has_more x xs t.0 t.1, t.2)
        | inl f ↦ elim (cases_eq a x) [
          | inl q ↦ inl (λ b h n. elim (has_cases x xs b h) [ inl e ↦ absurd (n (q ∙ e)) | inr i ↦ f b i n ])
          | inr n ↦ elim (authorizes_or_not a x) [
            | inl w ↦ inl (λ b h k. elim (has_cases x xs b h) [ inl e ↦ (rw (← e) w) | inr i ↦ f b i k ])
            | inr w ↦ inr (x, has_first x xs, record { differ = λ e. n (sym e); refused = w })
          ]
        ]
      ]

  -- none is before a free step
  pub none_before : (a : ℕ) (xs : List ℕ) → Free m xs a → (b : ℕ) → Has xs b → Before m b a → ⊥
  none_before a xs f b h w = w.refused (f b h (λ e. w.differ (sym e)))

  -- the smallest of ys that is free among xs, if there is one
  abbrev pub LeastFree : List ℕ → List ℕ → ℕ → Type 0
  LeastFree xs ys a = Has ys a × Free m xs a × ((b : ℕ) → Has ys b → b < a → Free m xs b → ⊥)

  pub least_free : (xs ys : List ℕ) → ((a : ℕ) × LeastFree xs ys a) ⊎ ((a : ℕ) → Has ys a → Free m xs a → ⊥)
  least_free xs [] = inr (λ a h. absurd (has_none a h))
  least_free xs (y ∷ ys) =
      elim (least_free xs ys) [
        | inl t ↦ elim (cases_lt y t.0) [
          | inr l ↦ inl (t.0, (has_more y ys t.0 t.1.0, t.1.1, λ b h k. elim (has_cases y ys b h) [ inl e ↦ absurd (omega arith) | inr i ↦ t.1.2 b i k ]))
          | inl l ↦ elim (free_or_before y xs) [
            | inl f ↦ inl (y, (has_first y ys, f, λ b h k. elim (has_cases y ys b h) [ inl e ↦ absurd (omega arith) | inr i ↦ t.1.2 b i (omega arith) ]))
            | inr w ↦ inl (t.0, (has_more y ys t.0 t.1.0, t.1.1, λ b h k g. elim (has_cases y ys b h) [ inl e ↦ none_before b xs g w.0 w.1 (rw (← e) w.2) | inr i ↦ t.1.2 b i k g ]))
          ]
        ]
        | inr n ↦ elim (free_or_before y xs) [
          | inl f ↦ inl (y, (has_first y ys, f, λ b h k g. elim (has_cases y ys b h) [ inl e ↦ absurd (omega arith) | inr i ↦ n b i g ]))
          | inr w ↦ inr (λ b h g. elim (has_cases y ys b h) [ inl e ↦ none_before b xs g w.0 w.1 (rw (← e) w.2) | inr i ↦ n b i g ])
        ]
      ]
