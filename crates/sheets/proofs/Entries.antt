-- Lists of ascending numbers: what passes ascends, and what ascends passes.
use Rattle.std.proofs.Common.{◌≡◌, ℕ, zero, suc, ◌+◌, ◌-◌, ◌*◌, ◌<◌, ◌≤◌, true, false, ◌||◌, eqb, ltb, ◌⊎◌, List, length, get_or, sym, refl, ap, ◌∙◌, subst, inl, inr, arith}
use Rattle.std.proofs.lemmas.Bool.{cases_Bool, cases_eq, ltb-true, lt-ltb, eqb-true, eq-eqb, ne_eqb, or_cases, or_left, or_right, or_from, both_ways}
use Rattle.sheets.specs.declared.fault.Refusal.TheVariants.{OutOfRange, NotAbove}
use Rattle.sheets.specs.Verdicts.{must}
use Rattle.sheets.specs.Fields.{be16, field, twos}
use Rattle.sheets.specs.Numbers.{Ascends, has_number}
use Rattle.sheets.specs.Lists.{entry, entries, numbers_at, among, Rising, Ascending}
use Rattle.sheets.proofs.Verdicts.{Passes, then_left, then_right, then_pass, must_true, must_pass, up_to_pass, field_room, field_pass}
use Rattle.sheets.proofs.Pairs.{has_at, has_none}
use Rattle.sheets.proofs.Stands.{Stands, length_numbers_at, read_numbers, numbers_end, get_or_numbers_at}

pub entry_room : (xs : List ℕ) (f at j : ℕ) → Passes (entry xs f at j) → at + 2 * j + 2 ≤ length xs
entry_room xs f at j h = field_room xs (at + 2 * j) 2 (then_left (field xs (at + 2 * j) 2) _ h)

pub entry_below : (xs : List ℕ) (f at j : ℕ) → Passes (entry xs f at j) → be16 xs (at + 2 * j) < f
entry_below xs f at j h =
    ltb-true (be16 xs (at + 2 * j)) f (must_true (ltb (be16 xs (at + 2 * j)) f) OutOfRange _ (then_left (must (ltb (be16 xs (at + 2 * j)) f) OutOfRange (at + 2 * j)) _ (then_right (field xs (at + 2 * j) 2) _ h)))

pub entry_above : (xs : List ℕ) (f at j : ℕ) → Passes (entry xs f at (suc j)) → be16 xs (at + 2 * j) < be16 xs (at + 2 * suc j)
entry_above xs f at j h =
    let t = must_true (eqb (suc j) 0 || ltb (be16 xs (at + 2 * suc j - 2)) (be16 xs (at + 2 * suc j))) NotAbove _
    (then_right (must (ltb (be16 xs (at + 2 * suc j)) f) OutOfRange (at + 2 * suc j)) _ (then_right (field xs (at + 2 * suc j) 2) _ h)) in
    let z : at + 2 * suc j - 2 ≡ at + 2 * j = omega arith in
    elim (or_cases (eqb (suc j) 0) (ltb (be16 xs (at + 2 * suc j - 2)) (be16 xs (at + 2 * suc j))) t) [
      | inl e ↦ let k = eqb-true (suc j) 0 e in absurd (omega arith)
      | inr e ↦ subst (λ v. be16 xs v < be16 xs (at + 2 * suc j)) z (ltb-true (be16 xs (at + 2 * suc j - 2)) (be16 xs (at + 2 * suc j)) e)
    ]

pub entries_room : (xs : List ℕ) (f at n : ℕ) → at ≤ length xs → Passes (entries xs f at n) → at + 2 * n ≤ length xs
entries_room xs f at zero l h = omega arith
entries_room xs f at (suc n) l h =
    let k = entry_room xs f at n (then_right (entries xs f at n) (entry xs f at n) h) in omega arith

-- a list that passes ascends
pub entries_ascend : (xs : List ℕ) (f at n : ℕ) → ((j : ℕ) → j < n → Passes (entry xs f at j)) → Ascending f (numbers_at xs at n)
entries_ascend xs f at n h =
    let len = length_numbers_at xs at n in
    record {
      below = λ j l. let k : j < n = omega (arith, len) in
          subst (λ v. v < f) (sym (get_or_numbers_at xs at n j k)) (entry_below xs f at j (h j k));
      ascends = λ j l. let k : suc j < n = omega (arith, len) in let k' : j < n = omega arith in
          subst (λ v. v < get_or (numbers_at xs at n) (suc j) 0) (sym (get_or_numbers_at xs at n j k'))
          (subst (λ v. be16 xs (at + 2 * j) < v) (sym (get_or_numbers_at xs at n (suc j) k)) (entry_above xs f at j (h (suc j) k)));
    }

pub entries_rise : (xs : List ℕ) (f at n : ℕ) → ((j : ℕ) → j < n → Passes (entry xs f at j)) → Rising xs at n
entries_rise xs f at n h i zero l k = absurd (omega arith)
entries_rise xs f at n h i (suc j) l k =
    let step = entry_above xs f at j (h (suc j) k) in
    elim (cases_eq i j) [
      | inl same ↦ subst (λ v. be16 xs (at + 2 * v) < be16 xs (at + 2 * suc j)) (sym same) step
      | inr other ↦ let on = entries_rise xs f at n h i j (omega arith) (omega arith) in omega arith
    ]

pub numbers_ascend : (xs : List ℕ) (at n : ℕ) → Rising xs at n → Ascends (numbers_at xs at n)
numbers_ascend xs at n up i j l k =
    let in_list : j < n = omega (arith, length_numbers_at xs at n) in
    omega (arith, up i j l in_list, get_or_numbers_at xs at n i (omega arith), get_or_numbers_at xs at n j in_list)

-- and back
pub numbers_rise : (xs : List ℕ) (at n : ℕ) → Ascends (numbers_at xs at n) → Rising xs at n
numbers_rise xs at n up i j l k =
    omega (arith, up i j l (omega (arith, length_numbers_at xs at n)), get_or_numbers_at xs at n i (omega arith), get_or_numbers_at xs at n j k)

above_zero : (xs : List ℕ) (at i : ℕ) → (i ≡ 0) ⊎ (be16 xs (at + 2 * i - 2) < be16 xs (at + 2 * i)) → (eqb i 0 || ltb (be16 xs (at + 2 * i - 2)) (be16 xs (at + 2 * i))) ≡ true
above_zero xs at i (inl z) = or_left (eqb i 0) _ (eq-eqb i 0 z)
above_zero xs at i (inr l) = or_right (eqb i 0) _ (lt-ltb (be16 xs (at + 2 * i - 2)) (be16 xs (at + 2 * i)) l)

rises : (xs : List ℕ) (f at : ℕ) (ps : List ℕ) (k : ℕ) → Stands xs at (twos ps) k → Ascending f ps → (i : ℕ) → i < length ps → (i ≡ 0) ⊎ (be16 xs (at + 2 * i - 2) < be16 xs (at + 2 * i))
rises xs f at ps k h w zero l = inl refl
rises xs f at ps k h w (suc i) l =
    let z : at + 2 * suc i - 2 ≡ at + 2 * i = omega arith in
    let p : be16 xs (at + 2 * suc i - 2) ≡ get_or ps i 0 = ap (be16 xs) z ∙ read_numbers xs at ps k h i (omega arith) in
    let q = read_numbers xs at ps k h (suc i) l in
    let a = w.ascends i l in
    inr (omega (arith, p, q, a))

-- a list that ascends passes
pub entry_pass : (xs : List ℕ) (f at : ℕ) (ps : List ℕ) (k : ℕ) → Stands xs at (twos ps) k → Ascending f ps → (i : ℕ) → i < length ps → Passes (entry xs f at i)
entry_pass xs f at ps k h w i l =
    let e = read_numbers xs at ps k h i l in
    let lt : be16 xs (at + 2 * i) < f = omega (arith, e, w.below i l) in
    then_pass (field xs (at + 2 * i) 2) _ (field_pass xs (at + 2 * i) 2 (numbers_end xs at ps k h i l))
    (then_pass (must (ltb (be16 xs (at + 2 * i)) f) OutOfRange (at + 2 * i)) _
    (must_pass (ltb (be16 xs (at + 2 * i)) f) OutOfRange (at + 2 * i) (lt-ltb (be16 xs (at + 2 * i)) f lt))
    (must_pass _ NotAbove (at + 2 * i) (above_zero xs at i (rises xs f at ps k h w i l))))

pub entries_pass : (xs : List ℕ) (f at : ℕ) (ps : List ℕ) (k : ℕ) → Stands xs at (twos ps) k → Ascending f ps → Passes (entries xs f at (length ps))
entries_pass xs f at ps k h w = up_to_pass (entry xs f at) (length ps) (entry_pass xs f at ps k h w)

-- a number found at a place is among those of a longer list
pub among_found : (xs : List ℕ) (at p i n : ℕ) → i < n → be16 xs (at + 2 * i) ≡ p → among xs at n p ≡ true
among_found xs at p i zero l h = absurd (omega arith)
among_found xs at p i (suc n) l h = elim (cases_eq i n) [
  | inl same ↦ or_right (among xs at n p) _ (eq-eqb (be16 xs (at + 2 * n)) p (rw same at h))
  | inr other ↦ or_left (among xs at n p) _ (among_found xs at p i n (omega arith) h)
]

pub among_none : (xs : List ℕ) (at n p : ℕ) → ((i : ℕ) → i < n → be16 xs (at + 2 * i) ≡ p → ⊥) → among xs at n p ≡ false
among_none xs at zero p h = refl
among_none xs at (suc n) p h =
    or_from (among xs at n p) _ (among_none xs at n p (λ i l. h i (omega arith))) (ne_eqb (be16 xs (at + 2 * n)) p (h n (omega arith)))

-- whether a number is among those of a list, said of the list itself
pub among_says : (xs : List ℕ) (at n p : ℕ) → among xs at n p ≡ true → (j : ℕ) × ((j < n) × (get_or (numbers_at xs at n) j 0 ≡ p))
among_says xs at zero p h = absurd (both_ways false refl h)
among_says xs at (suc n) p h = elim (or_cases (among xs at n p) (eqb (be16 xs (at + 2 * n)) p) h) [
  | inl e ↦ let r = among_says xs at n p e in
      let k : r.0 < suc n = omega (arith, r.1.0) in
      (r.0, (k, get_or_numbers_at xs at (suc n) r.0 k ∙ sym (get_or_numbers_at xs at n r.0 r.1.0) ∙ r.1.1))
  | inr e ↦ let k : n < suc n = omega arith in
      (n, (k, get_or_numbers_at xs at (suc n) n k ∙ eqb-true (be16 xs (at + 2 * n)) p e))
]

pub says_among : (xs : List ℕ) (at n p j : ℕ) → j < n → get_or (numbers_at xs at n) j 0 ≡ p → among xs at n p ≡ true
says_among xs at n p j l e = among_found xs at p j n l (sym (get_or_numbers_at xs at n j l) ∙ e)

-- a number is among the entries of a list where its numbers have it
pub among_has : (xs : List ℕ) (at n p : ℕ) → among xs at n p ≡ has_number (numbers_at xs at n) p
among_has xs at n p =
    let ps = numbers_at xs at n in
    elim (cases_Bool (among xs at n p)) [
      | inl e ↦ let r = among_says xs at n p e in e ∙ sym (has_at ps p r.0 (omega (arith, r.1.0, length_numbers_at xs at n)) (sym r.1.1))
      | inr e ↦ e ∙ sym (has_none ps p (λ j l h. both_ways (among xs at n p) e (says_among xs at n p j (omega (arith, length_numbers_at xs at n)) (sym h))))
    ]
