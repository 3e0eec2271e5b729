-- How many numbers a set has, by a list that holds them all.
use Rattle.std.proofs.Common.{◌≡◌, ℕ, zero, suc, ◌+◌, ◌<◌, ◌≤◌, Bool, true, false, cond, ◌||◌, eqb, List, [], ◌∷◌, length, refl, inl, inr, ⊎_elim, add-one, arith}
use Rattle.std.proofs.lemmas.Bool.{cases_lt}
use Rattle.std.proofs.lemmas.Bool.Decides.{nat_tests}
use Rattle.books.specs.Book.{count}
use Rattle.books.specs.Listed.{listed}

-- what one number adds
one_le : (s t u : Bool) → (s ≡ true → (t || u) ≡ true) → cond s 1 0 ≤ cond t 1 0 + cond u 1 0
one_le false t u h = omega arith
one_le true true u h = omega arith
one_le true false true h = omega arith
one_le true false false h = let z : ◌≡◌ {A = Bool} false true = h refl in grind arith

pub count_or : (P Q S : ℕ → Bool) → ((p : ℕ) → P p ≡ true → (Q p || S p) ≡ true) → (n : ℕ) → count P n ≤ count Q n + count S n
unfolding count
count_or P Q S h zero = omega arith
count_or P Q S h (suc n) = omega (arith, one_le (P n) (Q n) (S n) (h n), count_or P Q S h n)

pub count_none : (P : ℕ → Bool) → ((p : ℕ) → P p ≡ false) → (n : ℕ) → count P n ≡ 0
unfolding count
count_none P h zero = refl
count_none P h (suc n) = rw (h n) (omega (arith, count_none P h n))

count_past : (x n : ℕ) → n ≤ x → count (λ p. eqb p x) n ≡ 0
unfolding count
count_past x zero h = refl
count_past x (suc n) h = let e : eqb n x ≡ false = grind (arith, nat_tests) in rw e (omega (arith, count_past x n (omega arith)))

count_one : (x n : ℕ) → count (λ p. eqb p x) n ≤ 1
unfolding count
count_one x zero = omega arith
count_one x (suc n) =
    ⊎_elim
    (λ (l : n ≤ x). omega (arith, count_past x n l, one_le (eqb n x) true false (λ _. refl)))
    (λ (l : x < n). let e : eqb n x ≡ false = grind (arith, nat_tests) in rw e (omega (arith, count_one x n)))
    (⊎_elim (λ l. inr l) (λ l. inl l) (cases_lt x n))

pub count_entries : (xs : List ℕ) (n : ℕ) → count (listed xs) n ≤ length xs
count_entries [] n = omega (arith, count_none (listed []) (λ p. refl) n)
count_entries (x ∷ xs) n =
    omega (arith, count_or (listed (x ∷ xs)) (λ p. eqb p x) (listed xs) (λ p e. e) n, count_one x n, count_entries xs n)

-- a set that a list holds has no more numbers than the list
pub count_listed : (P : ℕ → Bool) (xs : List ℕ) → ((p : ℕ) → P p ≡ true → listed xs p ≡ true) → (n : ℕ) → count P n ≤ length xs
count_listed P xs h n =
    omega (
      arith,
      count_or P (listed xs) (λ p. false) (λ p e. grind (arith, nat_tests, h p e)) n,
      count_none (λ p. false) (λ p. refl) n,
      count_entries xs n,
    )

-- one number more, in the set
pub count_hit : (P : ℕ → Bool) (n : ℕ) → P n ≡ true → count P (n + 1) ≡ count P n + 1
unfolding count
count_hit P n e = rw (add-one n, e) (omega arith)
