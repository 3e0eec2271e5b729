-- What passes, part by part.
use Rattle.std.proofs.Common.{◌≡◌, ℕ, zero, suc, ◌+◌, ◌<◌, ◌≤◌, Bool, true, false, eqb, leb, List, length, is_ok, Ok, Err, refl, inl, inr, add-one, arith}
use Rattle.std.proofs.lemmas.Bool.{cases_eq, leb-true, le-leb, eqb-true, eq-eqb, both_ways}
use Rattle.sheets.specs.declared.fault.Refusal.{Refusal}
use Rattle.sheets.specs.declared.fault.Refusal.TheVariants.{Short, OverLimit, Misplaced}
use Rattle.sheets.specs.declared.fault.Refused.{Refused}
use Rattle.sheets.specs.Verdicts.{Verdict, fine, must, ◌then◌, up_to}
use Rattle.sheets.specs.Fields.{be32, field, limit, offset}

abbrev pub Passes : Verdict → Type 0
Passes v = is_ok v ≡ true

pub passes_fine : (v : Verdict) → Passes v → v ≡ fine
passes_fine (Ok u) h = refl
passes_fine (Err e) h = absurd (both_ways false refl h)

pub then_left : (v w : Verdict) → Passes (v then w) → Passes v
then_left (Ok u) w h = refl
then_left (Err e) w h = h

pub then_right : (v w : Verdict) → Passes (v then w) → Passes w
then_right (Ok u) w h = h
then_right (Err e) w h = absurd (both_ways false refl h)

pub then_pass : (v w : Verdict) → Passes v → Passes w → Passes (v then w)
then_pass (Ok u) w h k = k
then_pass (Err e) w h k = h

pub must_true : (b : Bool) (r : Refusal) (n : ℕ) → Passes (must b r n) → b ≡ true
must_true true r n h = refl
must_true false r n h = h

pub must_pass : (b : Bool) (r : Refusal) (n : ℕ) → b ≡ true → Passes (must b r n)
must_pass true r n h = refl
must_pass false r n h = h

-- each part of a passing row of parts passes, and the other way round
pub up_to_each : (v : ℕ → Verdict) (n i : ℕ) → i < n → Passes (up_to v n) → Passes (v i)
up_to_each v zero i l h = absurd (omega arith)
up_to_each v (suc n) i l h = elim (cases_eq i n) [
  | inl same ↦ rw same (then_right (up_to v n) (v n) h)
  | inr other ↦ up_to_each v n i (omega arith) (then_left (up_to v n) (v n) h)
]

pub up_to_pass : (v : ℕ → Verdict) (n : ℕ) → ((i : ℕ) → i < n → Passes (v i)) → Passes (up_to v n)
up_to_pass v zero h = refl
up_to_pass v (suc n) h = then_pass (up_to v n) (v n) (up_to_pass v n (λ i l. h i (omega arith))) (h n (omega arith))

-- the first part that is refused gives the whole its refusal
pub up_to_stops : (v : ℕ → Verdict) (i n : ℕ) (e : Refused) → i < n → up_to v i ≡ fine → v i ≡ Err e → up_to v n ≡ Err e
up_to_stops v i zero e l h k = absurd (omega arith)
up_to_stops v i (suc n) e l h k = elim (cases_eq i n) [
  | inl same ↦ let p : up_to v n ≡ fine = rw same at h in let q : v n ≡ Err e = rw same at k in rw (p, q)
  | inr other ↦ let p : up_to v n ≡ Err e = up_to_stops v i n e (omega arith) h k in rw p
]

-- fields, limits and offsets
pub field_room : (xs : List ℕ) (at w : ℕ) → Passes (field xs at w) → at + w ≤ length xs
field_room xs at w h = leb-true (at + w) (length xs) (must_true (leb (at + w) (length xs)) Short (length xs) h)

pub field_pass : (xs : List ℕ) (at w : ℕ) → at + w ≤ length xs → Passes (field xs at w)
field_pass xs at w h = must_pass (leb (at + w) (length xs)) Short (length xs) (le-leb (at + w) (length xs) h)

pub limit_pass : (n most at : ℕ) → n ≤ most → Passes (limit n most at)
limit_pass n most at h = must_pass (leb n most) OverLimit at (le-leb n most h)

pub offset_is : (xs : List ℕ) (at begins : ℕ) → Passes (offset xs at begins) → be32 xs at ≡ begins
offset_is xs at begins h = eqb-true (be32 xs at) begins (must_true (eqb (be32 xs at) begins) Misplaced at h)

pub offset_pass : (xs : List ℕ) (at begins : ℕ) → be32 xs at ≡ begins → Passes (offset xs at begins)
offset_pass xs at begins h = must_pass (eqb (be32 xs at) begins) Misplaced at (eq-eqb (be32 xs at) begins h)

-- one part more that is fine
pub up_to_more : (v : ℕ → Verdict) (i : ℕ) → up_to v i ≡ fine → v i ≡ fine → up_to v (i + 1) ≡ fine
up_to_more v i h k = rw (add-one, h, k)

-- a number within its limit
pub limit_kept : (n most at : ℕ) → Passes (limit n most at) → n ≤ most
limit_kept n most at h = leb-true n most (must_true (leb n most) OverLimit at h)
