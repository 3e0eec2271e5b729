-- Bytes that stand in a sheet, and the numbers that they say.
use Rattle.std.proofs.Common.{◌≡◌, ℕ, zero, suc, ◌+◌, ◌-◌, ◌*◌, ◌/◌, ◌%◌, ◌<◌, ◌≤◌, List, [], ◌∷◌, ◌++◌, length, get_or, drop, sym, refl, ap, ◌∙◌, append_assoc, append-nil, arith, length-append, length-drop}
use lib.Seq.{drop-length}
use Rattle.std.proofs.lemmas.List.{drop_more, drop_all, drop-drop, drop_at, get_or-drop}
use Rattle.sheets.specs.Fields.{be16, be32, two, four, twos}
use Rattle.sheets.specs.Lists.{numbers_at}

-- each byte is one
abbrev pub Bytes : List ℕ → Type 0
Bytes xs = (i : ℕ) → get_or xs i 0 < 256

-- the bytes of xs from i to j are ys
abbrev pub Stands : List ℕ → ℕ → List ℕ → ℕ → Type 0
Stands xs i ys j = drop i xs ≡ ys ++ drop j xs

-- all bytes stand from the first to the last
pub stands_whole : (xs : List ℕ) → Stands xs 0 xs (length xs)
stands_whole xs = sym (append-nil xs) ∙ ap (λ r. xs ++ r) (sym (drop-length xs))

pub whole_stands : (xs ys : List ℕ) → Stands xs 0 ys (length xs) → xs ≡ ys
whole_stands xs ys h = h ∙ ap (λ r. ys ++ r) (drop_all (length xs) xs (omega arith)) ∙ append-nil ys

pub stands_join : (xs : List ℕ) (i : ℕ) (ys : List ℕ) (j : ℕ) (zs : List ℕ) (k : ℕ) → Stands xs i ys j → Stands xs j zs k → Stands xs i (ys ++ zs) k
stands_join xs i ys j zs k h g = h ∙ ap (λ r. ys ++ r) g ∙ sym (append_assoc ys zs (drop k xs))

-- the front of what stands, and the rest
pub stands_rest : (xs : List ℕ) (i : ℕ) (ys zs : List ℕ) (k : ℕ) → Stands xs i (ys ++ zs) k → Stands xs (i + length ys) zs k
stands_rest xs i ys zs k h =
    sym (drop-drop (length ys) i xs) ∙ ap (drop (length ys)) (h ∙ append_assoc ys zs (drop k xs)) ∙ drop_at ys (zs ++ drop k xs) (length ys) refl

pub stands_front : (xs : List ℕ) (i : ℕ) (ys zs : List ℕ) (k : ℕ) → Stands xs i (ys ++ zs) k → Stands xs i ys (i + length ys)
stands_front xs i ys zs k h = h ∙ append_assoc ys zs (drop k xs) ∙ ap (λ r. ys ++ r) (sym (stands_rest xs i ys zs k h))

-- a byte of what stands, and the room that it takes
pub stands_read : (xs : List ℕ) (i : ℕ) (ys : List ℕ) (j n : ℕ) → Stands xs i ys j → get_or xs (i + n) 0 ≡ get_or (ys ++ drop j xs) n 0
stands_read xs i ys j n h = sym (get_or-drop i xs n 0) ∙ ap (λ r. get_or r n 0) h

pub stands_room : (xs : List ℕ) (i : ℕ) (ys : List ℕ) (j : ℕ) → Stands xs i ys j → length xs - i ≡ length ys + (length xs - j)
stands_room xs i ys j h = sym (length-drop i xs) ∙ ap length h ∙ length-append ys (drop j xs) ∙ ap (λ n. length ys + n) (length-drop j xs)

-- one byte more, at the next place
pub stands_byte : (xs : List ℕ) (i j : ℕ) → i < length xs → i + 1 ≡ j → Stands xs i (get_or xs i 0 ∷ []) j
stands_byte xs i j h e = drop_more xs i 0 h ∙ ap (λ n. get_or xs i 0 ∷ drop n xs) e

pub two_be : (x y : ℕ) → x < 256 → y < 256 → two (x * 256 + y) ≡ x ∷ y ∷ []
two_be x y h k =
    let p : (x * 256 + y) / 256 ≡ x = omega arith in
    let q : (x * 256 + y) % 256 ≡ y = omega arith in
    cc

pub four_be : (a b c d : ℕ) → a < 256 → b < 256 → c < 256 → d < 256 → four (a * 16777216 + b * 65536 + c * 256 + d) ≡ a ∷ b ∷ c ∷ d ∷ []
four_be a b c d h k l m =
    let p : (a * 16777216 + b * 65536 + c * 256 + d) / 16777216 ≡ a = omega arith in
    let q : (a * 16777216 + b * 65536 + c * 256 + d) / 65536 % 256 ≡ b = omega arith in
    let r : (a * 16777216 + b * 65536 + c * 256 + d) / 256 % 256 ≡ c = omega arith in
    let s : (a * 16777216 + b * 65536 + c * 256 + d) % 256 ≡ d = omega arith in
    cc

-- the bytes of a field say its number
pub stands_two : (xs : List ℕ) (i : ℕ) → Bytes xs → i + 2 ≤ length xs → Stands xs i (two (be16 xs i)) (i + 2)
stands_two xs i b h =
    let p0 = stands_byte xs i (i + 1) (omega arith) (omega arith) in
    let p1 = stands_byte xs (i + 1) (i + 2) (omega arith) (omega arith) in
    let t = two_be (get_or xs i 0) (get_or xs (i + 1) 0) (b i) (b (i + 1)) in
    p0 ∙ ap (λ r. get_or xs i 0 ∷ r) p1 ∙ sym (ap (λ r. r ++ drop (i + 2) xs) t)

pub stands_four : (xs : List ℕ) (i : ℕ) → Bytes xs → i + 4 ≤ length xs → Stands xs i (four (be32 xs i)) (i + 4)
stands_four xs i b h =
    let p0 = stands_byte xs i (i + 1) (omega arith) (omega arith) in
    let p1 = stands_byte xs (i + 1) (i + 2) (omega arith) (omega arith) in
    let p2 = stands_byte xs (i + 2) (i + 3) (omega arith) (omega arith) in
    let p3 = stands_byte xs (i + 3) (i + 4) (omega arith) (omega arith) in
    let t = four_be (get_or xs i 0) (get_or xs (i + 1) 0) (get_or xs (i + 2) 0) (get_or xs (i + 3) 0) (b i) (b (i + 1)) (b (i + 2)) (b (i + 3)) in
    p0 ∙ ap (λ r. get_or xs i 0 ∷ r) (p1 ∙ ap (λ r. get_or xs (i + 1) 0 ∷ r) (p2 ∙ ap (λ r. get_or xs (i + 2) 0 ∷ r) p3))
    ∙ sym (ap (λ r. r ++ drop (i + 4) xs) t)

pub stands_numbers : (xs : List ℕ) (i n : ℕ) → Bytes xs → i + 2 * n ≤ length xs → Stands xs i (twos (numbers_at xs i n)) (i + 2 * n)
stands_numbers xs i zero b h = let e : i ≡ i + 2 * 0 = omega arith in ap (λ k. drop k xs) e
stands_numbers xs i (suc n) b h =
    let e : i + 2 + 2 * n ≡ i + 2 * suc n = omega arith in
    stands_join xs i (two (be16 xs i)) (i + 2) (twos (numbers_at xs (i + 2) n)) (i + 2 * suc n) (stands_two xs i b (omega arith))
    (stands_numbers xs (i + 2) n b (omega arith) ∙ ap (λ k. twos (numbers_at xs (i + 2) n) ++ drop k xs) e)

-- the number that the bytes of a field say
pub read_two : (xs : List ℕ) (i n j : ℕ) → Stands xs i (two n) j → be16 xs i ≡ n
read_two xs i n j h =
    let p : get_or xs (i + 0) 0 ≡ n / 256 = stands_read xs i (two n) j 0 h in
    let z : i + 0 ≡ i = omega arith in
    let p' : get_or xs i 0 ≡ n / 256 = sym (ap (λ k. get_or xs k 0) z) ∙ p in
    let q : get_or xs (i + 1) 0 ≡ n % 256 = stands_read xs i (two n) j 1 h in
    omega (arith, p', q)

pub read_four : (xs : List ℕ) (i n j : ℕ) → n < 4294967296 → Stands xs i (four n) j → be32 xs i ≡ n
read_four xs i n j l h =
    let p : get_or xs (i + 0) 0 ≡ n / 16777216 = stands_read xs i (four n) j 0 h in
    let z : i + 0 ≡ i = omega arith in
    let p0 : get_or xs i 0 ≡ n / 16777216 = sym (ap (λ k. get_or xs k 0) z) ∙ p in
    let p1 : get_or xs (i + 1) 0 ≡ n / 65536 % 256 = stands_read xs i (four n) j 1 h in
    let p2 : get_or xs (i + 2) 0 ≡ n / 256 % 256 = stands_read xs i (four n) j 2 h in
    let p3 : get_or xs (i + 3) 0 ≡ n % 256 = stands_read xs i (four n) j 3 h in
    omega (arith, p0, p1, p2, p3)

pub length_twos : (ps : List ℕ) → length (twos ps) ≡ 2 * length ps
length_twos [] = refl
length_twos (p ∷ ps) = let h = length_twos ps in omega arith

pub length_numbers_at : (xs : List ℕ) (i n : ℕ) → length (numbers_at xs i n) ≡ n
length_numbers_at xs i zero = refl
length_numbers_at xs i (suc n) = ap suc (length_numbers_at xs (i + 2) n)

pub read_numbers : (xs : List ℕ) (at : ℕ) (ps : List ℕ) (k : ℕ) → Stands xs at (twos ps) k → (i : ℕ) → i < length ps → be16 xs (at + 2 * i) ≡ get_or ps i 0
read_numbers xs at [] k h i l = absurd (omega arith)
read_numbers xs at (p ∷ ps) k h zero l =
    let z : at + 2 * 0 ≡ at = omega arith in
    ap (be16 xs) z ∙ read_two xs at p (at + 2) (stands_front xs at (two p) (twos ps) k h)
read_numbers xs at (p ∷ ps) k h (suc i) l =
    let z : at + 2 * suc i ≡ at + 2 + 2 * i = omega arith in
    ap (be16 xs) z ∙ read_numbers xs (at + 2) ps k (stands_rest xs at (two p) (twos ps) k h) i (omega arith)

pub numbers_said : (xs : List ℕ) (at : ℕ) (ps : List ℕ) (k : ℕ) → Stands xs at (twos ps) k → numbers_at xs at (length ps) ≡ ps
numbers_said xs at [] k h = refl
numbers_said xs at (p ∷ ps) k h =
    let e = read_two xs at p (at + 2) (stands_front xs at (two p) (twos ps) k h) in
    let r = numbers_said xs (at + 2) ps k (stands_rest xs at (two p) (twos ps) k h) in
    ap (λ q. q ∷ numbers_at xs (at + 2) (length ps)) e ∙ ap (λ r. p ∷ r) r

pub numbers_end : (xs : List ℕ) (at : ℕ) (ps : List ℕ) (k : ℕ) → Stands xs at (twos ps) k → (i : ℕ) → i < length ps → at + 2 * i + 2 ≤ length xs
numbers_end xs at ps k h i l = omega (arith, stands_room xs at (twos ps) k h, length_twos ps)

pub get_or_numbers_at : (xs : List ℕ) (at n j : ℕ) → j < n → get_or (numbers_at xs at n) j 0 ≡ be16 xs (at + 2 * j)
get_or_numbers_at xs at zero j l = absurd (omega arith)
get_or_numbers_at xs at (suc n) zero l = let z : at ≡ at + 2 * 0 = omega arith in ap (be16 xs) z
get_or_numbers_at xs at (suc n) (suc j) l =
    let z : at + 2 + 2 * j ≡ at + 2 * suc j = omega arith in get_or_numbers_at xs (at + 2) n j (omega arith) ∙ ap (be16 xs) z
