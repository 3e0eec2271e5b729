-- Sets with the same numbers, and sets of which one has a number that the other lacks.
use Rattle.std.proofs.Common.{◌≡◌, ℕ, zero, suc, ◌<◌, ◌≤◌, Bool, true, false, not, ◌&&◌, Option, Some, None, sym, refl, ap, ◌∙◌, ap₂, inl, inr, arith}
use Rattle.std.specs.Bool.{beq}
use Rattle.std.specs.Option.{is_some, MatchOption}
use Rattle.std.proofs.lemmas.Bool.{cases_lt, false≢true}
use Rattle.facts.specs.Sets.{First, same_below}

both_alike : (b c : Bool) → b ≡ c → beq b c ≡ true
both_alike true true e = refl
both_alike false false e = refl
both_alike true false e = sym e
both_alike false true e = e

both_other : (b c : Bool) → b ≡ not c → beq b c ≡ false
both_other true true e = e
both_other false false e = sym e
both_other true false e = refl
both_other false true e = refl

with_false : (b : Bool) → (b && false) ≡ false
with_false true = refl
with_false false = refl

pub all_same : (n : ℕ) (f g : ℕ → Bool) → ((q : ℕ) → f q ≡ g q) → same_below n f g ≡ true
unfolding same_below
all_same zero f g h = refl
all_same (suc n) f g h = ap₂ ◌&&◌ (both_alike (f n) (g n) (h n)) (all_same n f g h)

pub one_other : (n : ℕ) (f g : ℕ → Bool) (k : ℕ) → k < n → f k ≡ not (g k) → same_below n f g ≡ false
unfolding same_below
one_other zero f g k l e = absurd (omega arith)
one_other (suc n) f g k l e =
    elim (cases_lt k n) [
      | inl h ↦ ap (λ b. beq (f n) (g n) && b) (one_other n f g k h e) ∙ with_false (beq (f n) (g n))
      | inr h ↦ let s : n ≡ k = omega arith in
          ap (λ b. b && same_below n f g) (ap (λ j. beq (f j) (g j)) s ∙ both_other (f k) (g k) e)
    ]

only_left : (b c : Bool) → (b && not c) ≡ true → b ≡ not c
only_left true c e = sym e
only_left false c e = absurd (false≢true e)

-- what is told by the search for a number of f that g lacks
abbrev pub Outside : (ℕ → Bool) → (ℕ → Bool) → ℕ → Option ℕ → Type 0
Outside f g m x = MatchOption x ((q : ℕ) → (f q && not (g q)) ≡ false) (λ k. (k < m) × First (λ q. f q && not (g q)) k)

only_right : (b c : Bool) → (c && not b) ≡ true → b ≡ not c
only_right true c e = absurd (false≢true (sym (with_false c) ∙ e))
only_right false true e = refl
only_right false false e = e

neither : (b c : Bool) → (b && not c) ≡ false → (c && not b) ≡ false → b ≡ c
neither true true e h = refl
neither false false e h = refl
neither true false e h = e
neither false true e h = sym h

none_outside : (f g : ℕ → Bool) (m : ℕ) (x : Option ℕ) → Outside f g m x → is_some x ≡ false → (q : ℕ) → (f q && not (g q)) ≡ false
none_outside f g m None o e = o
none_outside f g m (Some k) o e = absurd (false≢true (sym e))

-- a number of f that g lacks
pub first_other : (n m : ℕ) → m ≤ n → (f g : ℕ → Bool) (x : Option ℕ) → Outside f g m x → is_some x ≡ true → same_below n f g ≡ false
first_other n m l f g None o e = absurd (false≢true e)
first_other n m l f g (Some k) o e = one_other n f g k (omega (arith, o.0)) (only_left (f k) (g k) o.1.here)

-- a number of g that f lacks
second_other : (n m : ℕ) → m ≤ n → (f g : ℕ → Bool) (x : Option ℕ) → Outside g f m x → is_some x ≡ true → same_below n f g ≡ false
second_other n m l f g None o e = absurd (false≢true e)
second_other n m l f g (Some k) o e = one_other n f g k (omega (arith, o.0)) (only_right (f k) (g k) o.1.here)

-- f has no number that g lacks, and r is whether g has none that f lacks
pub second_says : (n m : ℕ) → m ≤ n → (f g : ℕ → Bool) (x y : Option ℕ) (r : Bool)
    → Outside f g m x → Outside g f m y → is_some x ≡ false → is_some y ≡ not r → r ≡ same_below n f g
second_says n m l f g x y true o p a b = sym (all_same n f g (λ q. neither (f q) (g q) (none_outside f g m x o a q) (none_outside g f m y p b q)))
second_says n m l f g x y false o p a b = sym (second_other n m l f g y p b)
