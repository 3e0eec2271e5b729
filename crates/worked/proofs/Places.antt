-- Places and precedence, shown by tests.
use Rattle.std.proofs.Common.{◌≡◌, ℕ, suc, ◌+◌, ◌<◌, Bool, true, false, not, ◌&&◌, ◌||◌, eqb, ltb, List, [], ◌∷◌, length, get_or, Decides, sym, refl, ap, ◌∙◌, inl, inr}
use Rattle.std.proofs.lemmas.List.{get_or_past}
use Rattle.std.proofs.lemmas.Bool.{cases_lt, both_ways, and_parts, eqb-true}
use Rattle.std.proofs.lemmas.Bool.Decides.{Decides-eqb, Decides-ltb, Decides-and, Decides-or, Decides-not, Decides-like}
use Rattle.books.specs.Book.{Model, Lawful}
use Rattle.books.specs.Listed.{listed}
use Rattle.plans.specs.Places.{Places, Stands, ArrangedFrom, Precedes, PrecedesBeside, PrecedesAcross}
use Rattle.checks.specs.Tables.{Exact}
use Rattle.worked.specs.Plans.{preceding}
use Rattle.worked.proofs.Tests.{below, every, authorizes, feeds, picks, decides_below, authorizes_decides, feeds_decides, picked_shown}
use Rattle.worked.proofs.Sets.{alike, decides_alike, listed_within}

module _ (m : Model) (o : Places) where
  abbrev stands : ℕ → ℕ → List ℕ → Bool
  stands n i bs = below (λ k. eqb (o.step (n + k)) (get_or bs k 0)) (length bs) && below (λ k. eqb (o.level (n + k)) i) (length bs)

  -- whether from place n on stand these orders of the levels
  abbrev pub arranges_from : ℕ → ℕ → List (List ℕ) → List (List ℕ) → Bool
  arranges_from n i [] orders = eqb o.size n
  arranges_from n i (xs ∷ rest) [] = false
  arranges_from n i (xs ∷ rest) (bs ∷ orders) = picks m xs bs && (stands n i bs && arranges_from (n + length bs) (suc i) rest orders)

  abbrev beside : ℕ → ℕ → Bool
  beside u v = eqb (o.level u) (o.level v) && (not (eqb u v) && not (authorizes m (o.step v) (o.step u)))

  abbrev across : ℕ → ℕ → Bool
  across u v =
      ltb (o.level u) (o.level v)
      && (not (authorizes m (o.step u) (o.step v)) || (not (authorizes m (o.step v) (o.step u)) || feeds m (o.step u) (o.step v)))

  abbrev pub precedes : ℕ → ℕ → Bool
  precedes u v = beside u v || across u v

  stands_shown : (n i : ℕ) (bs : List ℕ) → stands n i bs ≡ true → Stands o n i bs
  stands_shown n i bs e =
      let t = and_parts _ _ e in
      record {
        step = (decides_below (λ k. eqb (o.step (n + k)) (get_or bs k 0)) (λ k. o.step (n + k) ≡ get_or bs k 0) (λ k. Decides-eqb (o.step (n + k)) (get_or bs k 0)) (length bs)).0 t.0;
        level = (decides_below (λ k. eqb (o.level (n + k)) i) (λ k. o.level (n + k) ≡ i) (λ k. Decides-eqb (o.level (n + k)) i) (length bs)).0 t.1;
      }

  module _ (law : Lawful m) where
    pub arranged_shown : (n i : ℕ) (plan orders : List (List ℕ)) → arranges_from n i plan orders ≡ true → ArrangedFrom m o n i plan
    arranged_shown n i [] orders e = eqb-true _ _ e
    arranged_shown n i (xs ∷ rest) [] e = absurd (both_ways false refl e)
    arranged_shown n i (xs ∷ rest) (bs ∷ orders) e =
        let t = and_parts _ _ e in
        let r = and_parts _ _ t.1 in
        (bs, picked_shown m law xs bs t.0, stands_shown n i bs r.0, arranged_shown (n + length bs) (suc i) rest orders r.1)

    beside_decides : (u v : ℕ) → Decides (beside u v) (PrecedesBeside m o u v)
    beside_decides u v =
        Decides-like (beside u v) (λ t. (t.0, t.1.0, t.1.1)) (λ t. (t.0, (t.1, t.2)))
        (Decides-and _ _ (Decides-eqb (o.level u) (o.level v)) (Decides-and _ _ (Decides-not _ (Decides-eqb u v)) (Decides-not _ (authorizes_decides m law (o.step v) (o.step u)))))

    across_decides : (u v : ℕ) → Decides (across u v) (PrecedesAcross m o u v)
    across_decides u v =
        Decides-and _ _ (Decides-ltb (o.level u) (o.level v))
        (Decides-or _ _ (Decides-not _ (authorizes_decides m law (o.step u) (o.step v)))
        (Decides-or _ _ (Decides-not _ (authorizes_decides m law (o.step v) (o.step u))) (feeds_decides m law (o.step u) (o.step v))))

    precedes_decides : (u v : ℕ) → Decides (precedes u v) (Precedes m o u v)
    precedes_decides u v = Decides-or _ _ (beside_decides u v) (across_decides u v)

    -- a table of precedence is exact where it agrees with the test at all places
    pub exact_shown : (before : ℕ → ℕ → Bool) → below (λ u. below (λ v. alike (before u v) (precedes u v)) o.size) o.size ≡ true → Exact m o before
    exact_shown before e u v lu lv =
        let row = (decides_below (λ u. below (λ v. alike (before u v) (precedes u v)) o.size) (λ u. (v : ℕ) → v < o.size → before u v ≡ precedes u v)
        (λ u. decides_below (λ v. alike (before u v) (precedes u v)) (λ v. before u v ≡ precedes u v) (λ v. decides_alike (before u v) (precedes u v)) o.size) o.size).0 e in
        let same = row u lu v lv in
        (λ h. (precedes_decides u v).0 (sym same ∙ h), λ p. same ∙ (precedes_decides u v).1 p)

-- by its rows a place precedes only higher places
pub upward_shown : (rows : List (List ℕ)) → below (λ v. every (λ x. ltb x v) (get_or rows v [])) (length rows) ≡ true
    → (u v : ℕ) → preceding rows u v ≡ true → (u < v) × (v < length rows)
upward_shown rows e u v h =
    elim (cases_lt v (length rows)) [
      | inl l ↦ (elim (cases_lt u v) [
        | inl k ↦ (k, l)
        | inr k ↦ absurd (both_ways _ (listed_within v (get_or rows v []) ((decides_below (λ v. every (λ x. ltb x v) (get_or rows v [])) (λ v. every (λ x. ltb x v) (get_or rows v []) ≡ true) (λ v. (λ e. e, λ e. e)) (length rows)).0 e v l) u k) h)
      ])
      | inr l ↦ absurd (both_ways _ (ap (λ xs. listed xs u) (get_or_past rows v [] l)) h)
    ]
