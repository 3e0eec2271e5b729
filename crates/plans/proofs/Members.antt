-- Members of lists of steps: taking one out, lists that are distinct, lists with the same members.
use Rattle.std.proofs.Common.{◌≡◌, ℕ, zero, suc, ◌+◌, ◌<◌, ◌≤◌, cond, eqb, ◌⊎◌, List, [], ◌∷◌, length, get_or, sum_by, sym, refl, subst, ap₂, inl, inr, arith}
use Rattle.std.specs.List.{ContainsAt as Has, HoldsAt, AllByRecursion}
use Rattle.std.specs.List.Sorted.{IsPermutation}
use Rattle.std.proofs.ByRecursion.{all-has, All-get_or, All-weaker, all_shuffled, has_shuffled}
use Rattle.std.proofs.lemmas.List.Sorted.{IsPermutation-refl, IsPermutation-cons, IsPermutation-trans, IsPermutation-swap, sum_by-IsPermutation, IsPermutation-sym}
use Rattle.std.proofs.lemmas.List.Sums.{sum_by-cons}
use Rattle.std.proofs.lemmas.Bool.{cases_eq, eq-eqb, ne_eqb}
use Rattle.plans.specs.Plans.{Pairwise, Distinct, Ascending}

pub has_none : (a : ℕ) → Has [] a → ⊥
has_none a h = omega (arith, h.1)

pub has_first : (a : ℕ) (xs : List ℕ) → Has (a ∷ xs) a
has_first a xs = (0, omega arith, λ d. refl)

pub has_more : (b : ℕ) (xs : List ℕ) (c : ℕ) → Has xs c → Has (b ∷ xs) c
has_more b xs c h = (suc h.0, omega (arith, h.1), h.2)

at_cases : (b : ℕ) (xs : List ℕ) (c k : ℕ) → k < length (b ∷ xs) → HoldsAt (λ y. y ≡ c) (b ∷ xs) k → (b ≡ c) ⊎ Has xs c
at_cases b xs c zero l e = inl (e 0)
at_cases b xs c (suc k) l e = inr (k, omega arith, e)

pub has_cases : (b : ℕ) (xs : List ℕ) (c : ℕ) → Has (b ∷ xs) c → (b ≡ c) ⊎ Has xs c
has_cases b xs c h = at_cases b xs c h.0 h.1 h.2

swap_front : (a b : ℕ) (xs : List ℕ) → IsPermutation (a ∷ b ∷ xs) (b ∷ a ∷ xs)
swap_front a b xs = IsPermutation-swap (a ∷ b ∷ xs) (b ∷ a ∷ xs) 0 1 (omega arith) (omega arith) refl

-- rest is what is left of xs when a is taken out
abbrev pub TakenOut : (ℕ → ℕ → Type 0) → List ℕ → ℕ → List ℕ → Type 0
TakenOut R xs a rest = IsPermutation xs (a ∷ rest) × (Pairwise R xs → Pairwise R rest)

pub take_out : (R : ℕ → ℕ → Type 0) (xs : List ℕ) (a : ℕ) → Has xs a → (rest : List ℕ) × TakenOut R xs a rest
take_out R [] a h = absurd (has_none a h)
take_out R (x ∷ xs) a h =
    elim (has_cases x xs a h) [
      | inl q ↦ (xs, (subst (λ y. IsPermutation (x ∷ xs) (y ∷ xs)) q (IsPermutation-refl (x ∷ xs)), λ t. t.1))
      | inr i ↦ (let r = take_out R xs a i in (
        x ∷ r.0,
        (
          IsPermutation-trans (x ∷ xs) (x ∷ a ∷ r.0) (a ∷ x ∷ r.0) (IsPermutation-cons x xs (a ∷ r.0) r.1.0) (swap_front x a r.0),
          λ t. ((all_shuffled (R x) xs (a ∷ r.0) r.1.0 t.0).1, r.1.1 t.1),
        ),
      ))
    ]

-- how often a stands in xs
unfoldable tally : ℕ → List ℕ → ℕ
tally a xs = sum_by (λ x. cond (eqb x a) 1 0) xs

tally_cons : (a x : ℕ) (xs : List ℕ) → tally a (x ∷ xs) ≡ cond (eqb x a) 1 0 + tally a xs
unfolding tally
tally_cons a x xs = sum_by-cons (λ x. cond (eqb x a) 1 0) x xs

tally_same : (a : ℕ) (xs : List ℕ) → tally a (a ∷ xs) ≡ suc (tally a xs)
tally_same a xs = let e = eq-eqb a a refl in let f = rw e at (tally_cons a a xs) in omega arith

tally_more : (a x : ℕ) (xs : List ℕ) → tally a xs ≤ tally a (x ∷ xs)
tally_more a x xs = omega (arith, tally_cons a x xs)

tally_empty : (a : ℕ) → tally a [] ≡ 0
unfolding tally
tally_empty a = refl

tally_shuffled : (a : ℕ) (xs ys : List ℕ) → IsPermutation xs ys → tally a ys ≡ tally a xs
unfolding tally
tally_shuffled a xs ys s = sum_by-IsPermutation (λ x. cond (eqb x a) 1 0) xs ys s

tally_none : (a : ℕ) (xs : List ℕ) → AllByRecursion (λ b. a ≡ b → ⊥) xs → tally a xs ≡ 0
tally_none a [] d = tally_empty a
tally_none a (x ∷ xs) d =
    let e = ne_eqb x a (λ q. d.0 (sym q)) in
    let f = rw e at (tally_cons a x xs) in
    let ih = tally_none a xs d.1 in omega arith

none_tally : (a : ℕ) (xs : List ℕ) → tally a xs ≡ 0 → AllByRecursion (λ b. a ≡ b → ⊥) xs
none_tally a [] e = tt
none_tally a (x ∷ xs) e = (
  λ q. (let f = subst (λ y. tally a (y ∷ xs) ≡ 0) (sym q) e in omega (arith, tally_same a xs)),
  none_tally a xs (omega (arith, tally_more a x xs)),
)

tally_distinct : (a : ℕ) (xs : List ℕ) → Distinct xs → tally a xs ≤ 1
tally_distinct a [] d = omega (arith, tally_empty a)
tally_distinct a (x ∷ xs) d =
    elim (cases_eq x a) [
      | inl q ↦ subst (λ y. tally y (x ∷ xs) ≤ 1) q (omega (arith, tally_same x xs, tally_none x xs d.0))
      | inr n ↦ (let e = ne_eqb x a n in let f = rw e at (tally_cons a x xs) in omega (arith, tally_distinct a xs d.1))
    ]

distinct_tally : (xs : List ℕ) → ((a : ℕ) → tally a xs ≤ 1) → Distinct xs
distinct_tally [] f = tt
distinct_tally (x ∷ xs) f =
    (none_tally x xs (omega (arith, f x, tally_same x xs)), distinct_tally xs (λ a. omega (arith, f a, tally_more a x xs)))

pub distinct_shuffled : (xs ys : List ℕ) → IsPermutation xs ys → Distinct xs → Distinct ys
distinct_shuffled xs ys s d =
    distinct_tally ys (λ a. omega (arith, tally_shuffled a xs ys s, tally_distinct a xs d))

-- taken out of distinct steps, a is no more among them
pub out : (xs : List ℕ) (a : ℕ) (rest : List ℕ) → IsPermutation xs (a ∷ rest) → Distinct xs → Has rest a → ⊥
out xs a rest s d h = all-has (λ b. a ≡ b → ⊥) rest a (distinct_shuffled xs (a ∷ rest) s d).0 h refl

-- every other step of xs is in what is left
pub still_in : (xs : List ℕ) (a : ℕ) (rest : List ℕ) → IsPermutation xs (a ∷ rest) → (b : ℕ) → Has xs b → (a ≡ b → ⊥) → Has rest b
still_in xs a rest s b h n = elim (has_cases a rest b (has_shuffled xs (a ∷ rest) b s h)) [ inl q ↦ absurd (n q) | inr i ↦ i ]

-- what is left was in xs
pub was_in : (xs : List ℕ) (a : ℕ) (rest : List ℕ) → IsPermutation xs (a ∷ rest) → (b : ℕ) → Has rest b → Has xs b
was_in xs a rest s b h = has_shuffled (a ∷ rest) xs b (IsPermutation-sym xs (a ∷ rest) s) (has_more a rest b h)

pub pairwise_get_or : (R : ℕ → ℕ → Type 0) (xs : List ℕ) → Pairwise R xs → (i j d : ℕ) → i < j → j < length xs → R (get_or xs i d) (get_or xs j d)
pairwise_get_or R [] t i j d l k = absurd (omega arith)
pairwise_get_or R (x ∷ xs) t zero zero d l k = absurd (omega arith)
pairwise_get_or R (x ∷ xs) t (suc i) zero d l k = absurd (omega arith)
pairwise_get_or R (x ∷ xs) t zero (suc j) d l k = All-get_or (R x) xs j d (omega arith) t.0
pairwise_get_or R (x ∷ xs) t (suc i) (suc j) d l k = pairwise_get_or R xs t.1 i j d (omega arith) (omega arith)

pub pairwise_weaker : (R S : ℕ → ℕ → Type 0) → ((a b : ℕ) → R a b → S a b) → (xs : List ℕ) → Pairwise R xs → Pairwise S xs
pairwise_weaker R S f [] t = tt
pairwise_weaker R S f (x ∷ xs) t = (All-weaker (R x) (S x) (f x) xs t.0, pairwise_weaker R S f xs t.1)

pub distinct_from_ascending : (xs : List ℕ) → Ascending xs → Distinct xs
distinct_from_ascending xs t = pairwise_weaker (λ a b. a < b) (λ a b. a ≡ b → ⊥) (λ a b l q. omega arith) xs t

least : (x : ℕ) (xs : List ℕ) → Ascending (x ∷ xs) → (a : ℕ) → Has (x ∷ xs) a → x ≤ a
least x xs t a h = elim (has_cases x xs a h) [ inl q ↦ omega arith | inr i ↦ omega (arith, all-has (λ b. x < b) xs a t.0 i) ]

-- the steps of the second that are not its first
later : (x : ℕ) (xs : List ℕ) → Ascending (x ∷ xs) → (y : ℕ) (ys : List ℕ) → x ≡ y → ((a : ℕ) → Has (x ∷ xs) a → Has (y ∷ ys) a) → (a : ℕ) → Has xs a → Has ys a
later x xs t y ys q f a h =
    elim (has_cases y ys a (f a (has_more x xs a h))) [ inr i ↦ i | inl e ↦ absurd (omega (arith, all-has (λ b. x < b) xs a t.0 h)) ]

-- two ascending lists with the same steps are one
pub same_ascending : (xs ys : List ℕ) → Ascending xs → Ascending ys → ((a : ℕ) → Has xs a → Has ys a) → ((a : ℕ) → Has ys a → Has xs a) → xs ≡ ys
same_ascending [] [] s t f g = refl
same_ascending [] (y ∷ ys) s t f g = absurd (has_none y (g y (has_first y ys)))
same_ascending (x ∷ xs) [] s t f g = absurd (has_none x (f x (has_first x xs)))
same_ascending (x ∷ xs) (y ∷ ys) s t f g =
    let q : x ≡ y = omega (arith, least x xs s y (g y (has_first y ys)), least y ys t x (f x (has_first x xs))) in
    ap₂ ◌∷◌ q (same_ascending xs ys s.1 t.1 (later x xs s y ys q f) (later y ys t x xs (sym q) g))
