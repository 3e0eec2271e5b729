-- Which place precedes which, found out from tests of authorizing and feeding.
use Rattle.std.proofs.Common.{◌≡◌, ℕ, ◌<◌, Bool, true, false, not, ◌&&◌, ◌||◌, Decides, MatchBool, refl, inl, inr, arith}
use Rattle.std.proofs.lemmas.Bool.{and_from, and_parts, both_ways}
use Rattle.std.proofs.lemmas.Bool.Decides.{Decides-not, Decides-or, Decides-like}
use Rattle.books.specs.Book.{Model, Facts}
use Rattle.plans.specs.Steps.{Authorizes, Feeds}
use Rattle.plans.specs.Places.{Places, Precedes}

-- a test that finds a fact in two sets, or none, decides whether there is one
pub decides_shared : (f g : Facts) (r : Bool) → MatchBool r ((p : ℕ) × ((f p && g p) ≡ true)) ((p : ℕ) → (f p && g p) ≡ false) → Decides r ((p : ℕ) × ((f p && g p) ≡ true))
decides_shared f g true h = (λ e. h, λ t. refl)
decides_shared f g false h = (λ e. absurd (both_ways false refl e), λ t. absurd (both_ways _ (h t.0) t.1))

module _ (m : Model) (u v : ℕ) where
  -- two tests of shared facts decide whether a step authorizes another
  pub decides_authorizes : (adding deleting : Bool) → (u ≡ v → ⊥)
      → Decides adding ((p : ℕ) × ((m.adds u p && m.deletes v p) ≡ true)) → Decides deleting ((p : ℕ) × ((m.deletes u p && m.needs v p) ≡ true))
      → Decides (not (adding || deleting)) (Authorizes m u v)
  decides_authorizes adding deleting n f g =
      Decides-like (not (adding || deleting))
      (λ h. record {
        other = n;
        adding = λ p a d. h (inl (p, and_from _ _ a d));
        deleting = λ p d a. h (inr (p, and_from _ _ d a));
      })
      (λ w s. elim s [
        | inl t ↦ (let e = and_parts _ _ t.1 in w.adding t.0 e.0 e.1)
        | inr t ↦ (let e = and_parts _ _ t.1 in w.deleting t.0 e.0 e.1)
      ])
      (Decides-not (adding || deleting) (Decides-or adding deleting f g))

  -- and one whether it feeds it
  pub decides_feeds : (feeding : Bool) → Decides feeding ((p : ℕ) × ((m.adds u p && m.needs v p) ≡ true)) → Decides feeding (Feeds m u v)
  decides_feeds feeding f =
      Decides-like feeding (λ t. let e = and_parts _ _ t.1 in (t.0, e.0, e.1)) (λ t. (t.0, and_from _ _ t.1 t.2)) f

module _ (m : Model) (o : Places) (u v : ℕ) where
  pub not_itself : Precedes m o u u → ⊥
  not_itself (inl s) = s.1 refl
  not_itself (inr s) = omega (arith, s.0)

  -- no place precedes one of an earlier level
  pub not_back : o.level v < o.level u → Precedes m o u v → ⊥
  not_back l (inl s) = omega (arith, s.0)
  not_back l (inr s) = omega (arith, s.0)

  -- in one level
  pub decides_beside : (back : Bool) → o.level u ≡ o.level v → (u ≡ v → ⊥) → Decides back (Authorizes m (o.step v) (o.step u))
      → Decides (not back) (Precedes m o u v)
  decides_beside back e n f =
      Decides-like (not back) (λ h. inl (e, n, h)) (λ q. elim q [ inl s ↦ s.2 | inr s ↦ absurd (omega (arith, s.0)) ]) (Decides-not back f)

  -- from an earlier level
  pub decides_across : (forth back feeds : Bool) → o.level u < o.level v → Decides forth (Authorizes m (o.step u) (o.step v))
      → Decides back (Authorizes m (o.step v) (o.step u)) → Decides feeds (Feeds m (o.step u) (o.step v))
      → Decides (not forth || (not back || feeds)) (Precedes m o u v)
  decides_across forth back feeds l f g h =
      Decides-like (not forth || (not back || feeds)) (λ s. inr (l, s)) (λ q. elim q [ inl s ↦ absurd (omega (arith, s.0)) | inr s ↦ s.1 ])
      (Decides-or (not forth) (not back || feeds) (Decides-not forth f) (Decides-or (not back) feeds (Decides-not back g) h))
