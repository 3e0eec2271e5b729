-- The list of the numbers in a set.
use Rattle.std.proofs.Common.{◌≡◌, ℕ, zero, suc, ◌+◌, ◌<◌, ◌≤◌, Bool, true, false, cond, ◌&&◌, ◌||◌, eqb, ltb, List, [], ◌∷◌, ◌++◌, length, sym, refl, ap, ◌∙◌, inl, inr, add-one, arith, length-append}
use Rattle.std.proofs.lemmas.Bool.{cases_eq, cases_lt, lt-ltb, le-ltb, eq-eqb, ne_eqb, and_right}
use Rattle.std.proofs.lemmas.Bool.Decides.{nat_tests}
use Rattle.std.proofs.lemmas.List.{append-nil}
use Rattle.books.specs.Book.{Facts, count, StepSets}
use Rattle.books.specs.Listed.{listed, members}
use Rattle.books.proofs.Counts.{count_hit}

pub and_true : (s t : Bool) → t ≡ true → (s && t) ≡ s
and_true true t h = h
and_true false t h = refl

length_one : (b : Bool) (n : ℕ) → length (cond b (n ∷ []) []) ≡ cond b 1 0
length_one true n = refl
length_one false n = refl

pub length_members : (P : Facts) (n : ℕ) → length (members P n) ≡ count P n
unfolding count
length_members P zero = refl
length_members P (suc n) =
    let a = length-append (members P n) (cond (P n) (n ∷ []) []) in
    let b = length_one (P n) n in
    let c = length_members P n in
    omega arith

-- a loop's step
pub members_hit : (P : Facts) (n : ℕ) → P n ≡ true → members P (n + 1) ≡ members P n ++ (n ∷ [])
members_hit P n e = rw (add-one n, e)

pub members_miss : (P : Facts) (n : ℕ) → P n ≡ false → members P (n + 1) ≡ members P n
members_miss P n e = rw (add-one n, e) (append-nil (members P n))

pub count_up : (P : Facts) (n k : ℕ) → n ≤ k → count P n ≤ count P k
unfolding count
count_up P n zero h = let z : n ≡ 0 = omega arith in rw z (omega arith)
count_up P n (suc k) h = elim (cases_lt k n) [
  | inl l ↦ let z : n ≡ suc k = omega arith in rw z (omega arith)
  | inr l ↦ let i = count_up P n k l in omega arith
]

pub listed_append : (xs ys : List ℕ) (p : ℕ) → listed (xs ++ ys) p ≡ (listed xs p || listed ys p)
listed_append [] ys p = refl
listed_append (x ∷ xs) ys p = let h = listed_append xs ys p in grind (arith, nat_tests)

listed_one : (b : Bool) (n p : ℕ) → listed (cond b (n ∷ []) []) p ≡ (b && eqb p n)
listed_one true n p = grind (arith, nat_tests)
listed_one false n p = refl

-- one number more, at it and elsewhere
at_last : (s a b : Bool) → a ≡ false → b ≡ true → ((s && a) || (s && b)) ≡ s
at_last true a b e f = grind (arith, nat_tests)
at_last false a b e f = refl

elsewhere : (s t a b c : Bool) → b ≡ false → c ≡ a → ((s && a) || (t && b)) ≡ (s && c)
elsewhere s t a b c e f = grind (arith, nat_tests)

ltb_same : (p n : ℕ) → (p ≡ n → ⊥) → ltb p (suc n) ≡ ltb p n
ltb_same p n h = elim (cases_lt p n) [
  | inl l ↦ lt-ltb p (suc n) (omega arith) ∙ sym (lt-ltb p n l)
  | inr l ↦ le-ltb p (suc n) (omega arith) ∙ sym (le-ltb p n l)
]

-- a number is in the list where it is in the set and below the bound
pub listed_members : (P : Facts) (n p : ℕ) → listed (members P n) p ≡ (P p && ltb p n)
listed_members P zero p = sym (and_right (P p) (ltb p 0) (le-ltb p 0 (omega arith)))
listed_members P (suc n) p =
    listed_append (members P n) (cond (P n) (n ∷ []) []) p
    ∙ ap (λ b. b || listed (cond (P n) (n ∷ []) []) p) (listed_members P n p)
    ∙ ap (λ b. (P p && ltb p n) || b) (listed_one (P n) n p)
    ∙ elim (cases_eq p n) [
      | inl same ↦ rw same (at_last (P n) (ltb n n) (eqb n n) (le-ltb n n (omega arith)) (eq-eqb n n refl) ∙ sym (and_true (P n) (ltb n (suc n)) (lt-ltb n (suc n) (omega arith))))
      | inr other ↦ elsewhere (P p) (P n) (ltb p n) (eqb p n) (ltb p (suc n)) (ne_eqb p n other) (ltb_same p n other)
    ]

-- one fact more of a step's set is among at most 250
pub few_more : {f n : ℕ} {sets : ℕ → Facts} → StepSets f n sets → (a p : ℕ) → p < f → sets a p ≡ true → count (sets a) p + 1 ≤ 250
few_more {f} {n} {sets} h a p l e =
    let few = h.few a in
    let up = count_up (sets a) (p + 1) f (omega arith) in
    let hit = count_hit (sets a) p e in
    omega arith
