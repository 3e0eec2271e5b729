-- The steps of places by stratum, gathered place by place.
use Rattle.std.proofs.Common.{◌≡◌, ℕ, zero, suc, ◌+◌, ◌<◌, ◌≤◌, Bool, true, false, cond, ◌&&◌, ◌||◌, eqb, ltb, List, [], ◌∷◌, ◌++◌, length, get_or, sym, refl, ap, ◌∙◌, inl, inr, add-one, arith, length-append}
use Rattle.std.proofs.lemmas.List.{length_push, get_or_push, get_or_append_left}
use Rattle.std.proofs.lemmas.Bool.{cases_eq, cases_lt, eq-eqb, ne_eqb, eqb-true, lt-ltb, or_left}
use Rattle.std.proofs.lemmas.Bool.Decides.{nat_tests}
use Rattle.facts.specs.Sets.{holds}
use Rattle.books.specs.Book.{Facts, count}
use Rattle.books.specs.Listed.{members}
use Rattle.books.proofs.Counts.{count_or, count_none, count_listed}
use Rattle.books.proofs.Members.{length_members}
use Rattle.book_sheets.specs.Numbers.{numbers_in}
use Rattle.task_sheets.specs.Content.{total}
use Rattle.recasts.specs.Layers.{steps_at, rows_at}

pub total_push : (plan : List (List ℕ)) (xs : List ℕ) → total (plan ++ xs ∷ []) ≡ total plan + length xs
total_push [] xs = omega arith
total_push (ys ∷ plan) xs = omega (arith, total_push plan xs)

module _ (step stratum : ℕ → ℕ) where
  -- one place more
  pub place_more : (k n a : ℕ) → steps_at step stratum k (n + 1) a ≡ (steps_at step stratum k n a || (eqb (stratum n) k && eqb a (step n)))
  place_more k n a = ap (λ x. steps_at step stratum k x a) (add-one n)

  -- a set below 512 that holds the steps of the stratum among the first n places takes one more
  pub place_taken : (k n a p : ℕ) (old new r : Bool) → eqb (stratum n) k ≡ true → p ≡ step n → r ≡ ltb p 512 → new ≡ (old || (r && eqb a p))
      → old ≡ (ltb a 512 && steps_at step stratum k n a) → new ≡ (ltb a 512 && steps_at step stratum k (n + 1) a)
  place_taken k n a p old new r s e l b i =
      elim (cases_eq a p) [
        | inl h ↦
            (let w = place_more k n a in
            let t : eqb a (step n) ≡ true = eq-eqb a (step n) (h ∙ e) in
            let u : eqb a p ≡ true = eq-eqb a p h in
            let v : ltb a 512 ≡ ltb p 512 = ap (λ x. ltb x 512) h in
            rw w (grind (arith, nat_tests)))
        | inr h ↦
            (let w = place_more k n a in
            let t : eqb a (step n) ≡ false = ne_eqb a (step n) (λ d. h (d ∙ sym e)) in
            let u : eqb a p ≡ false = ne_eqb a p h in
            rw w (grind (arith, nat_tests)))
      ]

  -- a place of another stratum changes nothing
  pub place_passed : (k n a : ℕ) (old : Bool) → eqb (stratum n) k ≡ false → old ≡ (ltb a 512 && steps_at step stratum k n a)
      → old ≡ (ltb a 512 && steps_at step stratum k (n + 1) a)
  place_passed k n a old s i = let w = place_more k n a in rw w (grind (arith, nat_tests))

  -- one stratum more
  pub rows_more : (n k : ℕ) → rows_at step stratum n (k + 1) ≡ rows_at step stratum n k ++ (members (steps_at step stratum k n) 512 ∷ [])
  rows_more n k = ap (rows_at step stratum n) (add-one k)

  pub length_rows : (n k : ℕ) → length (rows_at step stratum n k) ≡ k
  length_rows n zero = refl
  length_rows n (suc k) = let e = length_push (rows_at step stratum n k) (members (steps_at step stratum k n) 512) in let h = length_rows n k in omega arith

  pub get_d_rows : (n k i : ℕ) → i < k → get_or (rows_at step stratum n k) i [] ≡ members (steps_at step stratum i n) 512
  get_d_rows n zero i l = absurd (omega arith)
  get_d_rows n (suc k) i l =
      let h = length_rows n k in
      let row : ℕ → List ℕ = λ j. members (steps_at step stratum j n) 512 in
      elim (cases_lt i k) [
        | inl j ↦ get_or_append_left (rows_at step stratum n k) (row k ∷ []) [] i (omega arith) ∙ get_d_rows n k i j
        | inr j ↦ let e : k ≡ i = omega arith in get_or_push (rows_at step stratum n k) (row k) [] i (omega arith) ∙ ap row e
      ]

  -- a place adds a step to one stratum at most, so all strata have no more steps than there are places
  others_none : (b : Bool) (p : ℕ) → count (λ a. b && eqb a p) 512 ≤ cond b 1 0
  others_none true p = count_listed (λ a. true && eqb a p) (p ∷ []) (λ a e. or_left (eqb a p) false e) 512
  others_none false p = omega (arith, count_none (λ a. false && eqb a p) (λ a. refl) 512)

  row_grows : (k n : ℕ) → length (members (steps_at step stratum k (suc n)) 512) ≤ length (members (steps_at step stratum k n) 512) + cond (eqb (stratum n) k) 1 0
  row_grows k n =
      let one : ℕ → Bool = λ a. eqb (stratum n) k && eqb a (step n) in
      let a = length_members (steps_at step stratum k (suc n)) 512 in
      let b = length_members (steps_at step stratum k n) 512 in
      let c = count_or (steps_at step stratum k (suc n)) (steps_at step stratum k n) one (λ a e. e) 512 in
      let d = others_none (eqb (stratum n) k) (step n) in
      omega arith

  rows_grow : (n k : ℕ) → total (rows_at step stratum (suc n) k) ≤ total (rows_at step stratum n k) + count (eqb (stratum n)) k
  unfolding count
  rows_grow n zero = omega arith
  rows_grow n (suc k) =
      let a = total_push (rows_at step stratum (suc n) k) (members (steps_at step stratum k (suc n)) 512) in
      let b = total_push (rows_at step stratum n k) (members (steps_at step stratum k n) 512) in
      let c = row_grows k n in
      let d = rows_grow n k in
      omega arith

  no_places : (k : ℕ) → total (rows_at step stratum 0 k) ≡ 0
  no_places zero = refl
  no_places (suc k) =
      let a = total_push (rows_at step stratum 0 k) (members (steps_at step stratum k 0) 512) in
      let b = length_members (steps_at step stratum k 0) 512 in
      let c = count_none (steps_at step stratum k 0) (λ a. refl) 512 in
      let d = no_places k in
      omega arith

  pub total_few : (n k : ℕ) → total (rows_at step stratum n k) ≤ n
  total_few zero k = omega (arith, no_places k)
  total_few (suc n) k =
      let a = rows_grow n k in
      let b = count_listed (eqb (stratum n)) (stratum n ∷ []) (λ j e. or_left (eqb j (stratum n)) false (eq-eqb j (stratum n) (sym (eqb-true (stratum n) j e)))) k in
      let c = total_few n k in
      omega arith

-- a set that agrees below 512 has the same list
pub members_same : (P Q : Facts) (n : ℕ) → ((a : ℕ) → a < n → P a ≡ Q a) → members P n ≡ members Q n
members_same P Q zero h = refl
members_same P Q (suc n) h =
    ap (λ xs. xs ++ cond (P n) (n ∷ []) []) (members_same P Q n (λ a l. h a (omega arith)))
    ∙ ap (λ b. members Q n ++ cond b (n ∷ []) []) (h n (omega arith))

pub row_said : (P Q : Facts) → ((a : ℕ) → P a ≡ (ltb a 512 && Q a)) → members P 512 ≡ members Q 512
row_said P Q h = members_same P Q 512 (λ a l. let e = h a in let t : ltb a 512 ≡ true = lt-ltb a 512 l in grind (arith, nat_tests))

-- the numbers of such a set are the list
pub row_put : (words : List ℕ) (Q : Facts) → ((a : ℕ) → holds words a ≡ (ltb a 512 && Q a)) → numbers_in words 8 ≡ members Q 512
unfolding numbers_in
row_put words Q h = row_said (holds words) Q h

-- one stratum more, with as many steps as its set has
pub total_more : (step stratum : ℕ → ℕ) (n k : ℕ) (P : Facts) (all len : ℕ) → ((a : ℕ) → P a ≡ (ltb a 512 && steps_at step stratum k n a))
    → len ≡ count P 512 → all ≡ total (rows_at step stratum n k) → all + len ≡ total (rows_at step stratum n (k + 1))
total_more step stratum n k P all len h e i =
    let m = e ∙ sym (length_members P 512) ∙ ap length (row_said P (steps_at step stratum k n) h) in
    let t = ap total (rows_more step stratum n k) ∙ total_push (rows_at step stratum n k) (members (steps_at step stratum k n) 512) in
    omega arith

-- the list of a set below a bound is no longer than the bound
one_few : (b : Bool) (n : ℕ) → length (cond b (n ∷ []) []) ≤ 1
one_few true n = omega arith
one_few false n = omega arith

pub members_few : (P : Facts) (n : ℕ) → length (members P n) ≤ n
members_few P zero = omega arith
members_few P (suc n) = omega (arith, length-append (members P n) (cond (P n) (n ∷ []) []), one_few (P n) n, members_few P n)
