-- The numbers of a set, written one after the other by a writer.
use Rattle.std.proofs.Common.{◌≡◌, ℕ, zero, suc, ◌+◌, ◌*◌, ◌<◌, ◌≤◌, false, ◌++◌, length, sym, ap, ◌∙◌, inl, inr, add-one, arith, List, refl}
use Rattle.std.proofs.lemmas.Bool.{cases_lt}
use Rattle.books.specs.Book.{Facts, count}
use Rattle.books.specs.Listed.{members}
use Rattle.books.proofs.Members.{length_members, members_hit, members_miss}
use Rattle.facts.specs.Sets.{holds, Next}
use Rattle.sheets.specs.declared.writer.Writer.{Writer}
use Rattle.sheets.specs.Fields.{two, twos}
use Rattle.sheets.specs.Writers.{Writes}
use Rattle.sheets.proofs.Writers.{writes_on, writes_as}
use Rattle.book_sheets.specs.Numbers.{numbers_in}
use Rattle.book_sheets.proofs.Listing.{member_room, twos_push}

-- how many numbers there are
pub length_numbers : (words : List ℕ) (w : ℕ) → length (numbers_in words w) ≡ count (holds words) (64 * w)
unfolding numbers_in
length_numbers words w = length_members (holds words) (64 * w)

-- a set without numbers from p up to n
pub members_gap : (P : Facts) (p n : ℕ) → p ≤ n → ((q : ℕ) → p ≤ q → q < n → P q ≡ false) → members P n ≡ members P p
members_gap P p zero h none = let e : 0 ≡ p = omega arith in ap (members P) e
members_gap P p (suc n) h none = elim (cases_lt n p) [
  | inl l ↦ let e : suc n ≡ p = omega arith in ap (members P) e
  | inr l ↦ ap (members P) (sym (add-one n)) ∙ members_miss P n (none n l (omega arith)) ∙ members_gap P p n l (λ q k m. none q k (omega arith))
]

-- the same set, by words and by asking of each number below n
members_ext : (P Q : Facts) (n : ℕ) → ((p : ℕ) → P p ≡ Q p) → members P n ≡ members Q n
members_ext P Q zero h = refl
members_ext P Q (suc n) h = rw (h n, members_ext P Q n h)

pub same_numbers : (words : List ℕ) (w : ℕ) (P : Facts) (n : ℕ) → ((p : ℕ) → holds words p ≡ P p) → ((p : ℕ) → n ≤ p → P p ≡ false) → n ≤ 64 * w
    → numbers_in words w ≡ members P n
unfolding numbers_in
same_numbers words w P n same past h =
    members_gap (holds words) n (64 * w) h (λ p k l. same p ∙ past p k) ∙ members_ext (holds words) P n same

-- the next number of the set
pub next_room : (P : Facts) (k p n : ℕ) → Next P p n → n < k → length (twos (members P p)) + 2 ≤ 2 * length (members P k)
next_room P k p n h l =
    let e = ap (λ ps. length (twos ps)) (members_gap P p n h.from h.before) in
    let r = member_room P k n l h.here in
    omega arith

pub next_put : {u v w : Writer} (P : Facts) (p n : ℕ) → Next P p n → Writes u (twos (members P p)) v → Writes v (two n) w → Writes u (twos (members P (n + 1))) w
next_put P p n h before here =
    let e : twos (members P (n + 1)) ≡ twos (members P p) ++ two n =
    ap twos (members_hit P n h.here) ∙ twos_push (members P n) n ∙ ap (λ ps. twos ps ++ two n) (members_gap P p n h.from h.before) in
    writes_as (sym e) (writes_on before here)
