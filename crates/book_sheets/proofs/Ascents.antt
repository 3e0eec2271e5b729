-- Ascending lists, by what is listed.
use Rattle.std.proofs.Common.{◌≡◌, ℕ, zero, suc, ◌+◌, ◌*◌, ◌<◌, ◌≤◌, Bool, true, false, not, ◌||◌, eqb, List, [], ◌∷◌, length, get_or, sym, refl, ap, ◌∙◌, inl, inr, arith}
use Rattle.std.proofs.lemmas.Bool.{both_ways, cases_Bool, cases_eq, eqb-true, eq-eqb, ne_eqb, or_cases, or_left, or_right}
use Rattle.books.specs.Listed.{listed}
use Rattle.sheets.specs.declared.fault.Refusal.TheVariants.{AddedToo}
use Rattle.sheets.specs.Verdicts.{must, ◌then◌, up_to}
use Rattle.sheets.specs.Fields.{be16}
use Rattle.sheets.specs.Lists.{entry, numbers_at, among, Ascending}
use Rattle.sheets.specs.Numbers.{has_number}
use Rattle.book_sheets.specs.Layout.{deleted, deleted_from}
use Rattle.sheets.proofs.Stands.{length_numbers_at}
use Rattle.sheets.proofs.Entries.{among_says, says_among}

-- two tests that are true together are equal
same_truth : (x y : Bool) → (x ≡ true → y ≡ true) → (y ≡ true → x ≡ true) → x ≡ y
same_truth true y h k = sym (h refl)
same_truth false true h k = k refl
same_truth false false h k = refl

pub listed_says : (ps : List ℕ) (p : ℕ) → listed ps p ≡ true → (j : ℕ) × ((j < length ps) × (get_or ps j 0 ≡ p))
listed_says [] p h = absurd (both_ways false refl h)
listed_says (q ∷ ps) p h = elim (or_cases (eqb p q) (listed ps p) h) [
  | inl e ↦ (0, (omega arith, sym (eqb-true p q e)))
  | inr e ↦ let r = listed_says ps p e in (suc r.0, (omega (arith, r.1.0), r.1.1))
]

pub says_listed : (ps : List ℕ) (p j : ℕ) → j < length ps → get_or ps j 0 ≡ p → listed ps p ≡ true
says_listed [] p j l e = absurd (omega arith)
says_listed (q ∷ ps) p zero l e = or_left (eqb p q) (listed ps p) (eq-eqb p q (sym e))
says_listed (q ∷ ps) p (suc j) l e = or_right (eqb p q) (listed ps p) (says_listed ps p j (omega arith) e)

-- what is among the numbers of a list in a sheet is listed
pub among_listed : (xs : List ℕ) (at n p : ℕ) → among xs at n p ≡ listed (numbers_at xs at n) p
among_listed xs at n p =
    same_truth (among xs at n p) (listed (numbers_at xs at n) p)
    (λ h. let r = among_says xs at n p h in says_listed (numbers_at xs at n) p r.0 (omega (arith, r.1.0, length_numbers_at xs at n)) r.1.1)
    (λ h. let r = listed_says (numbers_at xs at n) p h in says_among xs at n p r.0 (omega (arith, r.1.0, length_numbers_at xs at n)) r.1.1)

-- being in a list of numbers is being listed
pub has_listed : (ps : List ℕ) (p : ℕ) → has_number ps p ≡ listed ps p
has_listed [] p = refl
has_listed (q ∷ ps) p = ap (λ b. eqb p q || b) (has_listed ps p)

-- a delete is sought among the adds where they lie, or in the list of them
deleted_same : (xs : List ℕ) (f adds m at : ℕ) (ps : List ℕ) → ps ≡ numbers_at xs adds m → (j : ℕ) → deleted_from xs f ps at j ≡ deleted xs f adds m at j
deleted_same xs f adds m at ps e j =
    let q = be16 xs (at + 2 * j) in
    ap (λ b. entry xs f at j then must (not b) AddedToo (at + 2 * j)) (has_listed ps q ∙ ap (λ v. listed v q) e ∙ sym (among_listed xs adds m q))

pub deletes_same : (xs : List ℕ) (f adds m at : ℕ) (ps : List ℕ) → ps ≡ numbers_at xs adds m → (n : ℕ) → up_to (deleted_from xs f ps at) n ≡ up_to (deleted xs f adds m at) n
deletes_same xs f adds m at ps e zero = refl
deletes_same xs f adds m at ps e (suc n) =
    ap (λ v. v then deleted_from xs f ps at n) (deletes_same xs f adds m at ps e n)
    ∙ ap (λ v. up_to (deleted xs f adds m at) n then v) (deleted_same xs f adds m at ps e n)

-- no number at or above the bound is listed
pub none_above : (f : ℕ) (ps : List ℕ) → Ascending f ps → (p : ℕ) → f ≤ p → listed ps p ≡ false
none_above f ps w p l = elim (cases_Bool (listed ps p)) [
  | inl e ↦ let r = listed_says ps p e in let b = w.below r.0 r.1.0 in absurd (omega (arith, r.1.1))
  | inr e ↦ e
]

tail : (f p : ℕ) (ps : List ℕ) → Ascending f (p ∷ ps) → Ascending f ps
tail f p ps w = record { below = λ j l. w.below (suc j) (omega arith); ascends = λ j l. w.ascends (suc j) (omega arith) }

-- the first number is below each that follows
first_least : (f p : ℕ) (ps : List ℕ) → Ascending f (p ∷ ps) → (q : ℕ) → listed ps q ≡ true → p < q
first_least f p [] w q h = absurd (both_ways false refl h)
first_least f p (x ∷ ps) w q h =
    let up = w.ascends 0 (omega arith) in
    elim (or_cases (eqb q x) (listed ps q) h) [
      | inl e ↦ let s = eqb-true q x e in omega arith
      | inr e ↦ let s = first_least f x ps (tail f p (x ∷ ps) w) q e in omega arith
    ]

first_not_listed : (f p : ℕ) (ps : List ℕ) → Ascending f (p ∷ ps) → listed ps p ≡ false
first_not_listed f p ps w = elim (cases_Bool (listed ps p)) [
  | inl e ↦ let l = first_least f p ps w p e in absurd (omega arith)
  | inr e ↦ e
]

first_listed : (p : ℕ) (ps : List ℕ) → listed (p ∷ ps) p ≡ true
first_listed p ps = or_left (eqb p p) (listed ps p) (eq-eqb p p refl)

-- one of two first numbers is not below the other
not_below : (f p : ℕ) (ps : List ℕ) (q : ℕ) → Ascending f (p ∷ ps) → listed (p ∷ ps) q ≡ true → p ≤ q
not_below f p ps q w h = elim (or_cases (eqb q p) (listed ps q) h) [
  | inl e ↦ let s = eqb-true q p e in omega arith
  | inr e ↦ let s = first_least f p ps w q e in omega arith
]

rest_same : (p r : ℕ) (ps qs : List ℕ) → listed ps p ≡ false → listed qs p ≡ false → listed (p ∷ ps) r ≡ listed (p ∷ qs) r → listed ps r ≡ listed qs r
rest_same p r ps qs h k e = elim (cases_eq r p) [
  | inl same ↦ ap (listed ps) same ∙ h ∙ sym k ∙ sym (ap (listed qs) same)
  | inr other ↦ let z = ne_eqb r p other in
      sym (ap (λ b. b || listed ps r) z) ∙ e ∙ ap (λ b. b || listed qs r) z
]

-- ascending lists that list the same numbers are equal
pub ascending_same : (f g : ℕ) (ps qs : List ℕ) → Ascending f ps → Ascending g qs → ((p : ℕ) → listed ps p ≡ listed qs p) → ps ≡ qs
ascending_same f g [] [] v w h = refl
ascending_same f g [] (q ∷ qs) v w h = absurd (both_ways (listed (q ∷ qs) q) (sym (h q)) (first_listed q qs))
ascending_same f g (p ∷ ps) [] v w h = absurd (both_ways (listed (p ∷ ps) p) (h p) (first_listed p ps))
ascending_same f g (p ∷ ps) (q ∷ qs) v w h =
    let l = not_below f p ps q v (h q ∙ first_listed q qs) in
    let k = not_below g q qs p w (sym (h p) ∙ first_listed p ps) in
    let e : q ≡ p = omega arith in
    let out : listed qs p ≡ false = sym (ap (listed qs) e) ∙ first_not_listed g q qs w in
    let on : ps ≡ qs = ascending_same f g ps qs (tail f p ps v) (tail g q qs w)
    (λ r. rest_same p r ps qs (first_not_listed f p ps v) out (h r ∙ ap (λ n. listed (n ∷ qs) r) e)) in
    ap (λ s. p ∷ s) on ∙ ap (λ n. n ∷ qs) (sym e)
