-- Filling the table of precedence, one row after the other, and beside it the places, one after the other.
use Rattle.std.proofs.Common.{◌≡◌, ℕ, zero, suc, ◌+◌, ◌-◌, ◌<◌, ◌≤◌, true, false, List, [], ◌∷◌, ◌++◌, length, get_or, take, set, replicate, Decides, sym, refl, ap, subst, ◌∙◌, inl, inr, arith, get_or-set_other, get_or-set_same}
use Rattle.std.proofs.lemmas.Bool.{cases_lt, cases_eq, cases_order, both_ways}
use Rattle.std.proofs.lemmas.List.{take_more, length-take-le, get_or_push, get_or_past, get_or_append_left, length_push}
use Rattle.facts.specs.declared.NumberSet.{NumberSet}
use Rattle.facts.specs.Sets.{holds}
use Rattle.checks.specs.declared.arrangement.Place.{Place}
use Rattle.checks.specs.Rows.{marked}
use Rattle.checks.specs.Tables.{blank, places_in}
use Rattle.checks.proofs.Marks.{marked_set, marked_other}

-- the table with the rows below n, and after the row of n is written
module _ (n : ℕ) (rows : List (NumberSet 4)) (clear : (u v : ℕ) → n ≤ v → marked rows u v ≡ false) (low : (u v : ℕ) → v ≤ u → marked rows u v ≡ false) where
  pub table_exact : (P : ℕ → ℕ → Type 0) → ((u v : ℕ) → u < v → v < n → Decides (marked rows u v) (P u v)) → ((u v : ℕ) → u < n → v < n → P u v → u < v)
      → (u v : ℕ) → u < n → v < n → (marked rows u v ≡ true → P u v) × (P u v → marked rows u v ≡ true)
  table_exact P told upward u v l k =
      elim (cases_lt u v) [
        | inl h ↦ told u v h k
        | inr h ↦ (λ e. absurd (both_ways _ (low u v h) e), λ p. absurd (omega (arith, upward u v l k p)))
      ]

  module _ (row : NumberSet 4) (long : n < length rows) (below : (u : ℕ) → n ≤ u → holds row.words u ≡ false) where
    pub table_clear : (u v : ℕ) → n + 1 ≤ v → marked (set rows n row) u v ≡ false
    table_clear u v l = marked_other rows u n v row (λ e. omega arith) ∙ clear u v (omega arith)

    pub table_low : (u v : ℕ) → v ≤ u → marked (set rows n row) u v ≡ false
    table_low u v l =
        elim (cases_eq v n) [
          | inl e ↦ subst (λ i. marked (set rows n row) u i ≡ false) (sym e) (marked_set rows u n row long ∙ below u (omega arith))
          | inr d ↦ marked_other rows u n v row d ∙ low u v l
        ]

    pub table_told : (P : ℕ → ℕ → Type 0) → ((u : ℕ) → u < n → Decides (holds row.words u) (P u n)) → ((u v : ℕ) → u < v → v < n → Decides (marked rows u v) (P u v))
        → (u v : ℕ) → u < v → v < n + 1 → Decides (marked (set rows n row) u v) (P u v)
    table_told P here told u v l k =
        elim (cases_eq v n) [
          | inl e ↦ subst (λ i. Decides (marked (set rows n row) u i) (P u i)) (sym e)
              (subst (λ t. Decides t (P u n)) (sym (marked_set rows u n row long)) (here u (omega arith)))
          | inr d ↦ subst (λ t. Decides t (P u v)) (sym (marked_other rows u n v row d)) (told u v l (omega arith))
        ]

-- what is read of a list that is all b
pub all_same : {X : Type 0} (b : X) (n u : ℕ) → get_or (replicate n b) u b ≡ b
all_same b zero u = refl
all_same b (suc n) zero = refl
all_same b (suc n) (suc u) = all_same b n u

-- a copy of the first v elements of xs, with b elsewhere, takes one more
pub copied_more : {X : Type 0} (b : X) (xs ps : List X) (v : ℕ) (p : X) → v < length xs → v < length ps → get_or xs v b ≡ p
    → ((u : ℕ) → get_or ps u b ≡ get_or (take v xs) u b) → (u : ℕ) → get_or (set ps v p) u b ≡ get_or (take (v + 1) xs) u b
copied_more b xs ps v p l k e h u =
    let more = ap (λ ys. get_or ys u b) (take_more xs v b l) in
    let long = length-take-le v xs (omega arith) in
    elim (cases_order u v) [
      | inl q ↦ ap (λ n. get_or (set ps v p) n b) q ∙ get_or-set_same ps v p b k ∙ sym e ∙ sym (more ∙ get_or_push (take v xs) (get_or xs v b) b u (omega arith))
      | inr (inl s) ↦ get_or-set_other ps v u p b (λ q. omega arith) ∙ h u ∙ sym (more ∙ get_or_append_left (take v xs) (get_or xs v b ∷ []) b u (omega arith))
      | inr (inr s) ↦ get_or-set_other ps v u p b (λ q. omega arith) ∙ h u ∙ get_or_past (take v xs) u b (omega arith)
          ∙ sym (more ∙ get_or_past (take v xs ++ get_or xs v b ∷ []) u b (omega (arith, length_push (take v xs) (get_or xs v b))))
    ]

pub same_places : (n : ℕ) (ps qs : List Place) → ((u : ℕ) → get_or ps u blank ≡ get_or qs u blank) → places_in n ps ≡ places_in n qs
same_places n ps qs e = λ i. record { size = n; step = λ u. (e u i).step; level = λ u. (e u i).level - 1 }
