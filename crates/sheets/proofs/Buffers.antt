-- Bytes written one after the other into a buffer.
use Rattle.std.proofs.Common.{◌≡◌, ℕ, ◌+◌, ◌-◌, ◌≤◌, List, [], ◌++◌, length, take, drop, sym, ap, ◌∙◌, subst, append_assoc, zero-add, arith, length-append}
use borrow.Rule.Slice.PartMut.{put_mid}
use Rattle.std.proofs.lemmas.List.{take-append-drop, take_at, drop-drop, drop_at, length-take-le}
use Rattle.sheets.specs.Writing.{written, Wrote}

-- nothing written
pub written_none : (xs : List ℕ) (at : ℕ) → written xs at [] ≡ xs
written_none xs at =
    let e : at + 0 ≡ at = omega arith in ap (λ n. take at xs ++ drop n xs) e ∙ take-append-drop at xs

pub wrote_none : (xs : List ℕ) (at : ℕ) → Wrote xs at [] xs at
wrote_none xs at = record { bytes = sym (written_none xs at); place = omega arith }

-- written up to the end of the bytes, and what stands behind them
written_front : (xs : List ℕ) (at : ℕ) (ys : List ℕ) → at ≤ length xs → take (at + length ys) (written xs at ys) ≡ take at xs ++ ys
written_front xs at ys h =
    let n : length (take at xs ++ ys) ≡ at + length ys = length-append (take at xs) ys ∙ ap (λ k. k + length ys) (length-take-le at xs h) in
    ap (take (at + length ys)) (sym (append_assoc (take at xs) ys (drop (at + length ys) xs))) ∙ take_at (take at xs ++ ys) (drop (at + length ys) xs) (at + length ys) n

written_back : (xs : List ℕ) (at : ℕ) (ys : List ℕ) → at ≤ length xs → drop (at + length ys) (written xs at ys) ≡ drop (at + length ys) xs
written_back xs at ys h =
    let n : length (take at xs ++ ys) ≡ at + length ys = length-append (take at xs) ys ∙ ap (λ k. k + length ys) (length-take-le at xs h) in
    ap (drop (at + length ys)) (sym (append_assoc (take at xs) ys (drop (at + length ys) xs))) ∙ drop_at (take at xs ++ ys) (drop (at + length ys) xs) (at + length ys) n

-- bytes written behind bytes written are both written at once
pub written_on : (xs : List ℕ) (at : ℕ) (ys zs : List ℕ) → at ≤ length xs → written (written xs at ys) (at + length ys) zs ≡ written xs at (ys ++ zs)
written_on xs at ys zs h =
    let w = written xs at ys in
    let b : drop (at + length ys + length zs) w ≡ drop (at + length (ys ++ zs)) xs =
    sym (drop-drop (length zs) (at + length ys) w) ∙ ap (drop (length zs)) (written_back xs at ys h)
    ∙ drop-drop (length zs) (at + length ys) xs
    ∙ ap (λ n. drop n xs) (let l = length-append ys zs in omega arith) in
    ap (λ f. f ++ (zs ++ drop (at + length ys + length zs) w)) (written_front xs at ys h)
    ∙ ap (λ r. (take at xs ++ ys) ++ (zs ++ r)) b
    ∙ simp append_assoc

pub wrote_on : {xs ys ws zs vs : List ℕ} {at n k : ℕ} → at ≤ length xs → Wrote xs at ys ws n → Wrote ws n zs vs k → Wrote xs at (ys ++ zs) vs k
wrote_on {xs} {ys} {ws} {zs} {vs} {at} {n} {k} h p q =
    record {
      bytes = q.bytes ∙ ap (λ r. written r n zs) p.bytes ∙ ap (λ m. written (written xs at ys) m zs) p.place ∙ written_on xs at ys zs h;
      place = let l = length-append ys zs in let a = p.place in let b = q.place in omega arith;
    }

-- a copy into the part from a place to the next
pub part_written : (xs : List ℕ) (at : ℕ) (ys : List ℕ) → put_mid at (at + length ys - at) xs ys ≡ written xs at ys
part_written xs at ys =
    let e : at + (at + length ys - at) ≡ at + length ys = omega arith in
    ap (λ r. take at xs ++ (ys ++ r)) (drop-drop (at + length ys - at) at xs ∙ ap (λ n. drop n xs) e)

-- the same bytes under another name
pub wrote_as : {xs ys zs ws : List ℕ} {at n : ℕ} → ys ≡ zs → Wrote xs at ys ws n → Wrote xs at zs ws n
wrote_as {xs} {ys} {zs} {ws} {at} {n} e p = subst (λ r. Wrote xs at r ws n) e p

pub wrote_to : {xs ys ws vs : List ℕ} {at n k : ℕ} → vs ≡ ws → k ≡ n → Wrote xs at ys ws n → Wrote xs at ys vs k
wrote_to e f p = record { bytes = e ∙ p.bytes; place = f ∙ p.place }

-- bytes written at the front are followed by what stood behind them
pub front_put : {xs ys ws : List ℕ} {n : ℕ} → Wrote xs 0 ys ws n → ws ≡ ys ++ drop (length ys) xs
front_put {xs} {ys} w = w.bytes ∙ ap (λ k. ys ++ drop k xs) (zero-add (length ys))
