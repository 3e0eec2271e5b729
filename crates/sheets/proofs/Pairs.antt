-- The pairs of bytes of a list, and the numbers that they say.
use Rattle.std.proofs.Common.{◌≡◌, map, ℕ, zero, suc, ◌+◌, ◌<◌, ◌≤◌, true, false, eqb, List, [], ◌∷◌, length, get_or, take, drop, Result, Ok, Err, is_ok, sym, refl, ap, ◌∙◌, inl, inr, arith}
use Rattle.std.specs.List.Sorted.{IsSearchInRange, IsBinarySearchResult, IsNonDecreasingBy}
use Rattle.std.specs.Simd.{first_chunks}
use Rattle.std.specs.Ordering.{nat_cmp, ordering_index}
use Rattle.std.proofs.lemmas.Cmp.{ranked}
use Rattle.std.proofs.lemmas.Bool.{cases_lt, eq-eqb, ne_eqb, or_from, or_left, or_right}
use Rattle.std.proofs.lemmas.Bool.Decides.{nat_tests}
use Rattle.std.proofs.lemmas.List.{drop-drop, get_or-take, get_or-drop, get_or-map, length-map}
use Rattle.std.proofs.lemmas.List.Sorted.{IsNonDecreasingBy-from_default}
use Rattle.sheets.specs.Fields.{be16}
use Rattle.sheets.specs.Lists.{numbers_at}
use Rattle.sheets.specs.Numbers.{number_in, Ascends, has_number}

-- the bytes from a place on, two by two, say the numbers there
number_there : (bs : List ℕ) (at : ℕ) → number_in (take 2 (drop at bs)) ≡ be16 bs at
number_there bs at =
    let high : get_or (take 2 (drop at bs)) 0 0 ≡ get_or bs (at + 0) 0 = get_or-take 2 (drop at bs) 0 0 (omega arith) ∙ get_or-drop at bs 0 0 in
    let low : get_or (take 2 (drop at bs)) 1 0 ≡ get_or bs (at + 1) 0 = get_or-take 2 (drop at bs) 1 0 (omega arith) ∙ get_or-drop at bs 1 0 in
    let z : at + 0 ≡ at = omega arith in
    omega (arith, high, low, ap (λ k. get_or bs k 0) z)

pub chunks_say : (bs : List ℕ) (at n : ℕ) → map number_in (first_chunks 2 n (drop at bs)) ≡ numbers_at bs at n
chunks_say bs at zero = refl
chunks_say bs at (suc n) =
    ap (λ v. v ∷ map number_in (first_chunks 2 n (drop 2 (drop at bs)))) (number_there bs at)
    ∙ ap (λ ys. be16 bs at ∷ map number_in (first_chunks 2 n ys)) (drop-drop 2 at bs)
    ∙ ap (λ ps. be16 bs at ∷ ps) (chunks_say bs (at + 2) n)

-- a number that stands at a place of a list is in it, and one that stands at none is not
pub has_at : (ps : List ℕ) (p j : ℕ) → j < length ps → p ≡ get_or ps j 0 → has_number ps p ≡ true
has_at [] p j l e = absurd (omega arith)
has_at (q ∷ ps) p zero l e = or_left (eqb p q) (has_number ps p) (eq-eqb p q e)
has_at (q ∷ ps) p (suc j) l e = or_right (eqb p q) (has_number ps p) (has_at ps p j (omega arith) e)

pub has_none : (ps : List ℕ) (p : ℕ) → ((j : ℕ) → j < length ps → p ≡ get_or ps j 0 → ⊥) → has_number ps p ≡ false
has_none [] p h = refl
has_none (q ∷ ps) p h = or_from (eqb p q) (has_number ps p) (ne_eqb p q (h 0 (omega arith))) (has_none ps p (λ j l. h (suc j) (omega arith)))

-- a search among pairs of bytes whose numbers ascend says whether a number is there
module _ (pairs : List (List ℕ)) (ps : List ℕ) (says : map number_in pairs ≡ ps) (up : Ascends ps) (p : ℕ) where
  as_long : length pairs ≡ length ps
  as_long = sym (length-map pairs number_in) ∙ ap length says

  said : (j : ℕ) (d : List ℕ) → j < length pairs → number_in (get_or pairs j d) ≡ get_or ps j 0
  said j d l = sym (get_or-map number_in pairs j d 0 l) ∙ ap (λ qs. get_or qs j 0) says

  comparisons_rise : IsNonDecreasingBy (λ pair. ordering_index (nat_cmp (number_in pair) p)) pairs
  comparisons_rise = IsNonDecreasingBy-from_default (λ pair. ordering_index (nat_cmp (number_in pair) p)) pairs [] (λ i j le in_range.
      let x = said i [] (omega arith) in
      let y = said j [] in_range in
      let rise : number_in (get_or pairs i []) ≤ number_in (get_or pairs j []) = grind (arith, as_long, up i j, λ (same : i ≡ j). ap (λ k. number_in (get_or pairs k [])) same) in
      grind (arith, nat_tests))

  pub searched : (r : Result ℕ ℕ) → IsSearchInRange r (length pairs) → IsBinarySearchResult (λ pair. nat_cmp (number_in pair) p) pairs r → is_ok r ≡ has_number ps p
  searched (Ok i) l equal = sym (has_at ps p i (omega (arith, as_long)) (sym (ranked _ p _ (sym (equal []))) ∙ said i [] l))
  searched (Err i) l parted = sym (has_none ps p (λ j k e. elim (cases_lt j i) [
    | inl h ↦ let s = said j [] (omega (arith, as_long)) in let less = ranked _ p _ (sym ((parted comparisons_rise).0 j [] (omega arith) h)) in omega arith
    | inr h ↦ let s = said j [] (omega (arith, as_long)) in let more = ranked _ p _ (sym ((parted comparisons_rise).1 j [] h (omega (arith, as_long)))) in omega arith
  ]))

-- where the number at a place is below, those before it are too, and where it is above, those behind it are
pub below : (ps : List ℕ) → Ascends ps → (p m : ℕ) → m < length ps → get_or ps m 0 < p → (i : ℕ) → i < m + 1 → get_or ps i 0 < p
below ps up p m l h i k = elim (cases_lt i m) [
  | inl j ↦ omega (arith, up i m j l)
  | inr j ↦ let same : i ≡ m = omega arith in omega (arith, ap (λ v. get_or ps v 0) same)
]

pub above : (ps : List ℕ) → Ascends ps → (p m : ℕ) → p < get_or ps m 0 → (i : ℕ) → m ≤ i → i < length ps → p < get_or ps i 0
above ps up p m h i k l = elim (cases_lt m i) [
  | inl j ↦ omega (arith, up m i j l)
  | inr j ↦ let same : i ≡ m = omega arith in omega (arith, ap (λ v. get_or ps v 0) same)
]
