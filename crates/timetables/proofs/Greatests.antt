-- How the greatest value grows with one more, and that there is only one, from the laws of a measure.
use Rattle.std.proofs.Common.{◌≡◌, ℕ, ◌+◌, ◌<◌, ◌≤◌, Bool, true, false, cond, sym, refl, ap, ◌∙◌, subst, inl, inr, ⊎_elim, arith, below_more}
use Rattle.std.proofs.lemmas.Bool.{both_ways, cond_both}
use Rattle.timetables.specs.Scale.{Scale, Laws}
use Rattle.timetables.specs.Timetable.{greater_of, Greatest}

module _ {M : Type 0} {s : Scale M} (laws : Laws s) where
  reflexive : (x : M) → s.within x x ≡ true
  reflexive x = ⊎_elim (λ h. h) (λ h. h) (laws.total x x)

  other_way : (x y : M) → s.within x y ≡ false → s.within y x ≡ true
  other_way x y h = ⊎_elim (λ t. absurd (both_ways (s.within x y) h t)) (λ t. t) (laws.total x y)

  module _ (picked : ℕ → Bool) (value : ℕ → M) where
    pub greatest_none : Greatest s picked value 0 s.zero
    greatest_none = record { bound = λ u h _. absurd (omega arith); attained = inr ((λ u h _. omega arith), refl) }

    greatest_skip : (n : ℕ) (x : M) → picked n ≡ false → Greatest s picked value n x → Greatest s picked value (n + 1) x
    greatest_skip n x left g = record {
      bound = below_more _ n g.bound (λ t. absurd (both_ways (picked n) left t));
      attained = ⊎_elim (λ a. inl (a.0, omega (arith, a.1), a.2, a.3)) (λ a. inr (below_more _ n a.0 (λ t. both_ways (picked n) left t), a.1)) g.attained;
    }

    -- the new value is at least as great, so it is taken
    greatest_taken : (n : ℕ) (x : M) → picked n ≡ true → Greatest s picked value n x → s.within x (value n) ≡ true → Greatest s picked value (n + 1) (value n)
    greatest_taken n x here g up = record {
      bound = below_more _ n (λ u h t. laws.transitive (value u) x (value n) (g.bound u h t) up) (λ t. reflexive (value n));
      attained = inl (n, omega arith, here, refl);
    }

    -- the value so far is greater, so it is not zero, and stays
    greatest_stays : (n : ℕ) (x : M) → picked n ≡ true → Greatest s picked value n x → s.within x (value n) ≡ false → Greatest s picked value (n + 1) x
    greatest_stays n x here g down = record {
      bound = below_more _ n g.bound (λ t. other_way x (value n) down);
      attained = ⊎_elim (λ a. inl (a.0, omega (arith, a.1), a.2, a.3)) (λ a. absurd (both_ways (s.within x (value n)) down (ap (λ y. s.within y (value n)) a.1 ∙ laws.least (value n)))) g.attained;
    }

    -- one more value, by the greater of the two
    pub greatest_more : (n : ℕ) (x : M) → picked n ≡ true → Greatest s picked value n x → Greatest s picked value (n + 1) (greater_of s x (value n))
    greatest_more n x here g =
        cond_both (s.within x (value n)) (value n) x (λ t. Greatest s picked value (n + 1) t) (greatest_taken n x here g) (greatest_stays n x here g)

    -- one turn of a loop that takes a value only where it is picked
    pub greatest_turn : (n : ℕ) (x z : M) → z ≡ cond (picked n) (greater_of s x (value n)) x → Greatest s picked value n x → Greatest s picked value (n + 1) z
    greatest_turn n x z is g =
        subst (λ t. Greatest s picked value (n + 1) t) (sym is)
        (cond_both (picked n) (greater_of s x (value n)) x (λ t. Greatest s picked value (n + 1) t) (λ h. greatest_more n x h g) (λ h. greatest_skip n x h g))

    -- what bounds each value bounds the greatest
    pub greatest_within : (n : ℕ) (x y : M) → Greatest s picked value n x → ((u : ℕ) → u < n → picked u ≡ true → s.within (value u) y ≡ true) → s.within x y ≡ true
    greatest_within n x y g all =
        ⊎_elim (λ a. ap (λ t. s.within t y) a.3 ∙ all a.0 a.1 a.2) (λ a. ap (λ t. s.within t y) a.1 ∙ laws.least y) g.attained

module _ {M : Type 0} (s : Scale M) (picked : ℕ → Bool) where
  -- values that agree below n
  pub greatest_over : (value value' : ℕ → M) (n : ℕ) (x : M) → ((u : ℕ) → u < n → value u ≡ value' u) → Greatest s picked value n x → Greatest s picked value' n x
  greatest_over value value' n x same g = record {
    bound = λ u h t. ap (λ y. s.within y x) (sym (same u h)) ∙ g.bound u h t;
    attained = ⊎_elim (λ a. inl (a.0, a.1, a.2, a.3 ∙ same a.0 a.1)) inr g.attained;
  }

  -- a wider range in which no more is picked
  pub greatest_wider : (value : ℕ → M) (n k : ℕ) (x : M) → n ≤ k → ((u : ℕ) → picked u ≡ true → u < n) → Greatest s picked value n x → Greatest s picked value k x
  greatest_wider value n k x le low g = record {
    bound = λ u _ t. g.bound u (low u t) t;
    attained = ⊎_elim (λ a. inl (a.0, omega (arith, a.1), a.2, a.3)) (λ a. inr ((λ u _ t. a.0 u (low u t) t), a.1)) g.attained;
  }
