-- The numbers of a set as a list of a sheet: it ascends, and is written number by number.
use Rattle.std.proofs.Common.{◌≡◌, ℕ, zero, suc, ◌+◌, ◌*◌, ◌<◌, ◌≤◌, true, false, ltb, List, [], ◌∷◌, ◌++◌, length, get_or, sym, refl, ap, ◌∙◌, inl, inr, arith}
use Rattle.std.proofs.lemmas.Bool.{cases_Bool, cases_lt, and_parts}
use Rattle.std.proofs.lemmas.List.{append-nil, length_push, get_or_push, get_or_append_left}
use Rattle.books.specs.Book.{Facts}
use Rattle.books.specs.Listed.{members}
use Rattle.books.proofs.Counts.{count_hit}
use Rattle.books.proofs.Members.{length_members, members_hit, members_miss, count_up, listed_members}
use Rattle.sheets.specs.Fields.{two, twos}
use Rattle.sheets.specs.Lists.{Ascending}
use Rattle.sheets.specs.Writing.{Wrote}
use Rattle.sheets.proofs.Buffers.{wrote_on, wrote_as}
use Rattle.sheets.proofs.Stands.{length_twos}
use Rattle.book_sheets.proofs.Ascents.{says_listed}

-- the list of a set ascends
ascending_none : (b : ℕ) → Ascending b []
ascending_none b = record { below = λ j l. absurd (omega arith); ascends = λ j l. absurd (omega arith) }

ascending_higher : (b : ℕ) (ps : List ℕ) → Ascending b ps → Ascending (suc b) ps
ascending_higher b ps h = record { below = λ j l. let k = h.below j l in omega arith; ascends = h.ascends }

ascending_push : (b : ℕ) (ps : List ℕ) → Ascending b ps → Ascending (suc b) (ps ++ (b ∷ []))
ascending_push b ps h =
    let n = length_push ps b in
    record {
      below = λ j l. elim (cases_lt j (length ps)) [
        | inl k ↦ let e = get_or_append_left ps (b ∷ []) 0 j k in let m = h.below j k in omega arith
        | inr k ↦ let e = get_or_push ps b 0 j (omega arith) in omega arith
      ];
      ascends = λ j l. let k : j < length ps = omega arith in let e = get_or_append_left ps (b ∷ []) 0 j k in elim (cases_lt (suc j) (length ps)) [
        | inl m ↦ let f = get_or_append_left ps (b ∷ []) 0 (suc j) m in let a = h.ascends j m in omega arith
        | inr m ↦ let f = get_or_push ps b 0 (suc j) (omega arith) in let a = h.below j k in omega arith
      ];
    }

pub members_ascend : (P : Facts) (n : ℕ) → Ascending n (members P n)
members_ascend P zero = ascending_none 0
members_ascend P (suc n) =
    let h = members_ascend P n in
    elim (cases_Bool (P n)) [
      | inl e ↦ rw e (ascending_push n (members P n) h)
      | inr e ↦ rw e (rw append-nil (ascending_higher n (members P n) h))
    ]

-- each number of the list is in the set
pub in_set : (P : Facts) (n i : ℕ) → i < length (members P n) → P (get_or (members P n) i 0) ≡ true
in_set P n i l =
    let p = get_or (members P n) i 0 in
    (and_parts (P p) (ltb p n) (sym (listed_members P n p) ∙ says_listed (members P n) p i l refl)).0

-- the numbers of a set, written one after the other
pub twos_push : (ps : List ℕ) (p : ℕ) → twos (ps ++ (p ∷ [])) ≡ twos ps ++ two p
twos_push [] p = refl
twos_push (q ∷ ps) p = ap (λ r. two q ++ r) (twos_push ps p)

pub member_room : (P : Facts) (f p : ℕ) → p < f → P p ≡ true → length (twos (members P p)) + 2 ≤ 2 * length (members P f)
member_room P f p l e =
    let a = length_twos (members P p) in
    let b = length_members P p in
    let c = length_members P f in
    let d = count_hit P p e in
    let u = count_up P (p + 1) f (omega arith) in
    omega arith

-- one number more that is in the set, and one that is not
pub member_put : {xs ws vs : List ℕ} {at n k : ℕ} (P : Facts) (p : ℕ) → at ≤ length xs → P p ≡ true
    → Wrote xs at (twos (members P p)) ws n → Wrote ws n (two p) vs k → Wrote xs at (twos (members P (p + 1))) vs k
member_put P p h e w v = wrote_as (sym (ap twos (members_hit P p e) ∙ twos_push (members P p) p)) (wrote_on h w v)

pub member_passed : {xs ws : List ℕ} {at n : ℕ} (P : Facts) (p : ℕ) → P p ≡ false
    → Wrote xs at (twos (members P p)) ws n → Wrote xs at (twos (members P (p + 1))) ws n
member_passed P p e w = wrote_as (sym (ap twos (members_miss P p e))) w
