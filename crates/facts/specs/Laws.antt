-- Having the same numbers below a bound is an equivalence: the proofs that the impls of sets hand over.
use Rattle.std.specs.Prelude.{◌≡◌, ℕ, zero, suc, Bool, true, ◌&&◌}
use Rattle.std.specs.Cmp.{IsEquivalence, IsPartialEquivalence, bool_eq_equiv, partial_equiv_from_equiv, first_so, second_so}
use Rattle.std.proofs.Common.{ap₂, refl}
use Rattle.facts.specs.Sets.{same_below}

same_refl : (n : ℕ) (f : ℕ → Bool) → same_below n f f ≡ true
unfolding same_below
same_refl zero f = refl
same_refl (suc n) f = ap₂ ◌&&◌ (bool_eq_equiv.refl (f n)) (same_refl n f)

same_symm : (n : ℕ) (f g : ℕ → Bool) → same_below n f g ≡ same_below n g f
unfolding same_below
same_symm zero f g = refl
same_symm (suc n) f g = ap₂ ◌&&◌ (bool_eq_equiv.symm (f n) (g n)) (same_symm n f g)

same_congr : (n : ℕ) (f g h : ℕ → Bool) → same_below n f g ≡ true → same_below n f h ≡ same_below n g h
unfolding same_below
same_congr zero f g h e = refl
same_congr (suc n) f g h e = ap₂ ◌&&◌ (bool_eq_equiv.congr (f n) (g n) (h n) (first_so _ _ e)) (same_congr n f g h (second_so _ _ e))

pub same_numbers : {K : Type 0} (n : ℕ) (f : K → ℕ → Bool) → IsEquivalence (λ a b. same_below n (f a) (f b))
same_numbers n f = record { refl = λ a. same_refl n (f a); symm = λ a b. same_symm n (f a) (f b); congr = λ a b c e. same_congr n (f a) (f b) (f c) e }

pub same_numbers-partial : {K : Type 0} (n : ℕ) (f : K → ℕ → Bool) → IsPartialEquivalence (λ a b. same_below n (f a) (f b))
same_numbers-partial n f = partial_equiv_from_equiv (same_numbers n f)
