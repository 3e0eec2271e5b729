-- A level of distinct steps is authorized exactly where precedence inside it has no cycle.
use Rattle.std.proofs.Common.{◌≡◌, ℕ, zero, suc, ◌<◌, List, [], ◌∷◌, length, get_or, sym, refl, ap, subst, subst₂, inl, inr, arith}
use Rattle.std.specs.List.{ContainsAt as Has}
use Rattle.std.specs.List.Sorted.{IsPermutation}
use Rattle.std.proofs.ByRecursion.{all_has_itself, All-weaker, has_shuffled}
use Rattle.std.proofs.lemmas.List.Sorted.{IsPermutation-refl, IsPermutation-cons, IsPermutation-trans, length_permutation}
use Rattle.std.proofs.lemmas.Bool.{cases_order}
use Rattle.books.specs.Book.{Model, Lawful}
use Rattle.plans.specs.Steps.{Authorizes}
use Rattle.plans.specs.Plans.{Distinct, InTurn, Authorized}
use Rattle.plans.specs.Order.{Before, Free, Way, next, onward, Cycle}
use Rattle.plans.specs.Laws.{Acyclicity}
use Rattle.plans.proofs.Members.{has_none, has_first, has_cases, take_out, out, was_in, pairwise_get_or}
use Rattle.plans.proofs.Deciding.{free_or_before, least_free}

module _ (m : Model) (xs : List ℕ) where
  begins_in : {u v : ℕ} → Way m xs u v → Has xs u
  begins_in (next h i w) = h
  begins_in (onward h w r) = h

  joined : {u v w : ℕ} → Way m xs u v → Way m xs v w → Way m xs u w
  joined (next h i b) r = onward h b r
  joined (onward h b q) r = onward h b (joined q r)

  within : (ys : List ℕ) → ((a : ℕ) → Has xs a → Has ys a) → {u v : ℕ} → Way m xs u v → Way m ys u v
  within ys f (next {u} {v} h i b) = next (f u h) (f v i) b
  within ys f (onward {u} h b r) = onward (f u h) b (within ys f r)

  -- steps of which each has a way from another of them: one has a way from itself
  cycle_from : (ys : List ℕ) (a : ℕ) → Has ys a → ((v : ℕ) → Has ys v → (b : ℕ) × Has ys b × Way m xs b v) → Cycle m xs
  cycle_from [] a h f = absurd (has_none a h)
  cycle_from (y ∷ ys) a h f =
      let t = f y (has_first y ys) in
      elim (has_cases y ys t.0 t.1) [
        | inl q ↦ (y, subst (λ b. Way m xs b y) (sym q) t.2)
        | inr i ↦ cycle_from ys t.0 i (λ v j. let r = f v (has_later v j) in elim (has_cases y ys r.0 r.1) [
          | inr k ↦ (r.0, k, r.2)
          | inl q ↦ (t.0, i, joined t.2 (subst (λ b. Way m xs b v) (sym q) r.2))
        ])
      ]
    where
      has_later : (v : ℕ) → Has ys v → Has (y ∷ ys) v
      has_later v j = (suc j.0, omega (arith, j.1), j.2)

-- in turn, what is before a step stands earlier
module _ (m : Model) (bs : List ℕ) (turn : InTurn m bs) where
  earlier : (i j : ℕ) → i < length bs → j < length bs → Before m (get_or bs i 0) (get_or bs j 0) → i < j
  earlier i j k l w =
      elim (cases_order i j) [
        | inl q ↦ absurd (w.differ (ap (λ n. get_or bs n 0) q))
        | inr (inl n) ↦ n
        | inr (inr n) ↦ absurd (w.refused (pairwise_get_or (Authorizes m) bs turn j i 0 n k))
      ]

  way_earlier : (xs : List ℕ) → ((a : ℕ) → Has xs a → Has bs a) → {u v : ℕ} → Way m xs u v
      → (i j : ℕ) → i < length bs → j < length bs → get_or bs i 0 ≡ u → get_or bs j 0 ≡ v → i < j
  way_earlier xs f (next h g w) i j k l e d = earlier i j k l (subst₂ (Before m) (sym e) (sym d) w)
  way_earlier xs f (onward {v = y} h w r) i j k l e d =
      let t = f y (begins_in m xs r) in
      let a = earlier i t.0 k t.1 (subst₂ (Before m) (sym e) (sym (t.2 0)) w) in
      let b = way_earlier xs f r t.0 j t.1 l (t.2 0) d in omega arith

no_cycle : (m : Model) (xs : List ℕ) → Authorized m xs → Cycle m xs → ⊥
no_cycle m xs s c =
    let f = λ (a : ℕ) (h : Has xs a). has_shuffled xs s.0 a s.1.shuffled h in
    let t = f c.0 (begins_in m xs c.1) in
    omega (arith, way_earlier m s.0 s.1.turn xs f c.1 t.0 t.0 t.1 t.1 (t.2 0) (t.2 0))

module _ (m : Model) (law : Lawful m) where
  -- a free step, then an authorized rest
  authorized_more : (xs : List ℕ) (a : ℕ) (rest : List ℕ) → IsPermutation xs (a ∷ rest) → Distinct xs → Free m xs a → Authorized m rest → Authorized m xs
  authorized_more xs a rest s d f t =
      let s' = IsPermutation-trans xs (a ∷ rest) (a ∷ t.0) s (IsPermutation-cons a rest t.0 t.1.shuffled) in
      let w = All-weaker (Has t.0) (Authorizes m a)
      (λ b h. f b (was_in xs a t.0 s' b h) (λ q. out xs a t.0 s' d (subst (Has t.0) (sym q) h))) t.0 (all_has_itself t.0) in
      (a ∷ t.0, record { shuffled = s'; turn = (w, t.1.turn) })

  authorized_from : (n : ℕ) (xs : List ℕ) → length xs ≡ n → Distinct xs → (Cycle m xs → ⊥) → Authorized m xs
  authorized_from zero [] e d f = ([], record { shuffled = IsPermutation-refl []; turn = tt })
  authorized_from zero (x ∷ xs) e d f = absurd (omega arith)
  authorized_from (suc n) [] e d f = absurd (omega arith)
  authorized_from (suc n) (x ∷ xs) e d f =
      elim (least_free m law (x ∷ xs) (x ∷ xs)) [
        | inl w ↦ (let r = take_out (λ a b. a ≡ b → ⊥) (x ∷ xs) w.0 w.1.0 in
            let k : length r.0 ≡ n = omega (arith, length_permutation (x ∷ xs) (w.0 ∷ r.0) r.1.0) in
            authorized_more (x ∷ xs) w.0 r.0 r.1.0 d w.1.1 (authorized_from n r.0 k (r.1.1 d)
            (λ c. f (c.0, within m r.0 (x ∷ xs) (was_in (x ∷ xs) w.0 r.0 r.1.0) c.1))))
        | inr g ↦ absurd (f (cycle_from m (x ∷ xs) (x ∷ xs) x (has_first x xs) (λ v h. elim (free_or_before m law v (x ∷ xs)) [
          | inl i ↦ absurd (g v h i)
          | inr t ↦ (t.0, t.1, next t.1 h t.2)
        ])))
      ]

pub acyclicity : Acyclicity
acyclicity m law xs d = (no_cycle m xs, authorized_from m law (length xs) xs refl d)
