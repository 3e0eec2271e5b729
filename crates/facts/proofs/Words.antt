-- The bits of words, and the numbers that a row of words holds.
use Rattle.std.proofs.Common.{◌≡◌, ℕ, zero, suc, ◌+◌, ◌-◌, ◌*◌, ◌/◌, ◌%◌, ◌^◌, ◌<◌, ◌≤◌, min, max, Bool, true, false, cond, not, ◌&&◌, ◌||◌, eqb, leb, ◌≢◌, List, length, get_or, set, replicate, Some, None, Option, MatchOption, Bor, sym, refl, ap, ◌∙◌, ⊎_elim, mul_assoc, one-mul, mul_left_comm, arith}
use native.Mathlib.Nat.{two-pow-succ, div-div-eq-div-mul, pow-succ', zero-div}
use lib.Bits.{bit_and, bit_or, or_step, and_step, or_shr, and_shr, and_mask}
use lib.Pow.{shl-shr}
use lib.Count.{count_trailing_zeros, under}
use Rattle.std.proofs.lemmas.Bool.Decides.{nat_tests}
use Rattle.std.proofs.lemmas.Bool.{cases_eq, cases_lt, eq-eqb, ne_eqb}
use Rattle.std.proofs.lemmas.Nat.{one_shl, shr-shr, shr_split, pow-add}
use Rattle.std.proofs.lemmas.List.{get_or-set_same, get_or-set_other, get_or_past}
use Rattle.std.specs.Slice.{IsItemAt}
use Rattle.facts.specs.Sets.{bit, holds}

halve : (n k : ℕ) → n / 2 ^ suc k ≡ n / 2 / 2 ^ k
halve n k = ap (λ d. n / d) (pow-succ' 2 k) ∙ sym (div-div-eq-div-mul n 2 (2 ^ k))

pub digit_or : (a b k : ℕ) → bit_or a b / 2 ^ k % 2 ≡ max (a / 2 ^ k % 2) (b / 2 ^ k % 2)
digit_or a b k = omega (arith, or_shr a b k, or_step (a / 2 ^ k) (b / 2 ^ k))

pub digit_and : (a b k : ℕ) → bit_and a b / 2 ^ k % 2 ≡ min (a / 2 ^ k % 2) (b / 2 ^ k % 2)
digit_and a b k = omega (arith, and_shr a b k, and_step (a / 2 ^ k) (b / 2 ^ k))

pub digit_not : (k n m : ℕ) → m < 2 ^ n → k < n → ((2 ^ n - 1) - m) / 2 ^ k % 2 ≡ 1 - m / 2 ^ k % 2
digit_not zero zero m l h = omega arith
digit_not (suc k) zero m l h = omega arith
digit_not zero (suc n) m l h = omega (arith, two-pow-succ n)
digit_not (suc k) (suc n) m l h =
    let e : ((2 ^ suc n - 1) - m) / 2 ≡ (2 ^ n - 1) - m / 2 = omega (arith, two-pow-succ n) in
    let s : m / 2 < 2 ^ n = omega (arith, two-pow-succ n) in
    rw (halve ((2 ^ suc n - 1) - m) k, halve m k, e) (digit_not k n (m / 2) s (omega arith))

digit_one_same : (k : ℕ) → 2 ^ k / 2 ^ k % 2 ≡ 1
digit_one_same k = let e : 2 ^ k / 2 ^ k ≡ 1 = simp one-mul at (shl-shr 1 k) in omega arith

digit_one_other : (j k : ℕ) → j ≢ k → 2 ^ k / 2 ^ j % 2 ≡ 0
digit_one_other zero zero ne = omega arith
digit_one_other zero (suc k) ne = omega (arith, two-pow-succ k)
digit_one_other (suc j) zero ne = rw (halve 1 j) (omega (arith, zero-div (2 ^ j)))
digit_one_other (suc j) (suc k) ne =
    let e : 2 ^ suc k / 2 ≡ 2 ^ k = omega (arith, two-pow-succ k) in
    rw (halve (2 ^ suc k) j, e) (digit_one_other j k (λ e. ne (ap suc e)))

pub bit_of_or : (a b k : ℕ) → bit (bit_or a b) k ≡ (bit a k || bit b k)
unfolding bit
bit_of_or a b k = grind (arith, nat_tests, digit_or a b k)

pub bit_of_and : (a b k : ℕ) → bit (bit_and a b) k ≡ (bit a k && bit b k)
unfolding bit
bit_of_and a b k = grind (arith, nat_tests, digit_and a b k)

pub bit_not : (m k : ℕ) → m < 2 ^ 64 → k < 64 → bit ((2 ^ 64 - 1) - m) k ≡ not (bit m k)
unfolding bit
bit_not m k l h = grind (arith, nat_tests, digit_not k 64 m l h)

pub bit_one : (k j : ℕ) → bit (2 ^ k) j ≡ eqb j k
unfolding bit
bit_one k j =
    ⊎_elim
    (λ (e : j ≡ k). rw e (grind (arith, nat_tests, digit_one_same k)))
    (λ (ne : j ≡ k → ⊥). grind (arith, nat_tests, digit_one_other j k ne))
    (cases_eq j k)

-- the mask of number p, as the code has it
pub bit_mask : (p j : ℕ) → bit ((1 * 2 ^ (p % 64)) % 2 ^ 64) j ≡ eqb j (p % 64)
bit_mask p j = ap (λ m. bit m j) (one_shl (p % 64) 64 (omega arith)) ∙ bit_one (p % 64) j

pub mask_lt : (p : ℕ) → (1 * 2 ^ (p % 64)) % 2 ^ 64 < 2 ^ 64
mask_lt p = omega arith

pub holds_set : (ws : List ℕ) (w v q : ℕ) → w < length ws → holds (set ws w v) q ≡ cond (eqb (q / 64) w) (bit v (q % 64)) (holds ws q)
unfolding holds
holds_set ws w v q h =
    ⊎_elim
    (λ (e : q / 64 ≡ w). rw (eq-eqb (q / 64) w e, e, get_or-set_same ws w v 0 h))
    (λ (ne : q / 64 ≡ w → ⊥). rw (ne_eqb (q / 64) w ne, get_or-set_other ws w (q / 64) v 0 ne))
    (cases_eq (q / 64) w)

module _ (ws : List ℕ) (p q : ℕ) (h : p / 64 < length ws) where
  -- one bit is set or cleared, and every other number stays
  pub holds_put : holds (set ws (p / 64) (bit_or (get_or ws (p / 64) 0) ((1 * 2 ^ (p % 64)) % 2 ^ 64))) q ≡ cond (eqb q p) true (holds ws q)
  unfolding holds
  holds_put =
      holds_set ws (p / 64) (bit_or (get_or ws (p / 64) 0) ((1 * 2 ^ (p % 64)) % 2 ^ 64)) q h
      ∙ rw (bit_of_or (get_or ws (p / 64) 0) ((1 * 2 ^ (p % 64)) % 2 ^ 64) (q % 64), bit_mask p (q % 64)) (grind (arith, nat_tests))

  pub holds_clear : holds (set ws (p / 64) (bit_and (get_or ws (p / 64) 0) ((2 ^ 64 - 1) - (1 * 2 ^ (p % 64)) % 2 ^ 64))) q ≡ cond (eqb q p) false (holds ws q)
  unfolding holds
  holds_clear =
      holds_set ws (p / 64) (bit_and (get_or ws (p / 64) 0) ((2 ^ 64 - 1) - (1 * 2 ^ (p % 64)) % 2 ^ 64)) q h
      ∙ rw (
        bit_of_and (get_or ws (p / 64) 0) ((2 ^ 64 - 1) - (1 * 2 ^ (p % 64)) % 2 ^ 64) (q % 64),
        bit_not ((1 * 2 ^ (p % 64)) % 2 ^ 64) (q % 64) (mask_lt p) (omega arith),
        bit_mask p (q % 64),
      ) (grind (arith, nat_tests))

-- the test of one bit
pub bit_read : (n k : ℕ) → eqb (bit_and (n / 2 ^ k) 1) 1 ≡ bit n k
unfolding bit
bit_read n k = ap (λ x. eqb x 1) (and_mask (n / 2 ^ k) 1)

-- past the words nothing is held
pub holds_past : (ws : List ℕ) (p : ℕ) → length ws ≤ p / 64 → holds ws p ≡ false
unfolding holds bit
holds_past ws p h = rw (get_or_past ws (p / 64) 0 h) (rw (zero-div (2 ^ (p % 64))) refl)

pub bit_zero : (k : ℕ) → bit 0 k ≡ false
unfolding bit
bit_zero k = rw (zero-div (2 ^ k)) refl

-- t is the lowest set digit of n, and below k
pub record Lowest (k n t : ℕ) : Type 0 where
  pub below : t < k
  pub set : n / 2 ^ t % 2 ≡ 1
  pub under : (j : ℕ) → j < t → n / 2 ^ j % 2 ≡ 0

module _ (k n : ℕ) where
  lowest_under : (t : ℕ) → n % 2 ≡ 0 → Lowest k (n / 2) t → (j : ℕ) → j < suc t → n / 2 ^ j % 2 ≡ 0
  lowest_under t e low zero h = omega arith
  lowest_under t e low (suc j) h = rw (halve n j) (low.under j (omega arith))

  lowest_step : (d t : ℕ) → n % 2 ≡ d → 0 < n → (0 < n / 2 → Lowest k (n / 2) t) → Lowest (suc k) n (under d t)
  lowest_step zero t e p low =
      let at : Lowest k (n / 2) t = low (omega arith) in
      record { below = omega arith; set = rw (halve n t) at.set; under = lowest_under t e at }
  lowest_step (suc d) t e p low = record { below = omega arith; set = omega arith; under = λ j h. omega arith }

pub lowest : (k n : ℕ) → 0 < n → n < 2 ^ k → Lowest k n (count_trailing_zeros k n)
unfolding count_trailing_zeros
lowest zero n p l = omega arith
lowest (suc k) n p l =
    let half : n / 2 < 2 ^ k = omega (arith, two-pow-succ k) in
    lowest_step k n (n % 2) (count_trailing_zeros k (n / 2)) refl p (λ q. lowest k (n / 2) q half)

module _ (n : ℕ) where
  less_at_step : (d t : ℕ) → n % 2 ≡ d → 0 < n → (0 < n / 2 → (n / 2 - 1) / 2 ^ t % 2 ≡ 0) → (n - 1) / 2 ^ under d t % 2 ≡ 0
  less_at_step zero t e p low = let half : (n - 1) / 2 ≡ n / 2 - 1 = omega arith in rw (halve (n - 1) t, half) (low (omega arith))
  less_at_step (suc d) t e p low = omega arith

  less_past_step : (d t j : ℕ) → n % 2 ≡ d → 0 < n → under d t < j
      → ((i : ℕ) → 0 < n / 2 → t < i → (n / 2 - 1) / 2 ^ i % 2 ≡ n / 2 / 2 ^ i % 2) → (n - 1) / 2 ^ j % 2 ≡ n / 2 ^ j % 2
  less_past_step d t zero e p h more = absurd (omega arith)
  less_past_step zero t (suc j) e p h more =
      let half : (n - 1) / 2 ≡ n / 2 - 1 = omega arith in
      rw (halve (n - 1) j, halve n j, half) (more j (omega arith) (omega arith))
  less_past_step (suc d) t (suc j) e p h more =
      let half : (n - 1) / 2 ≡ n / 2 = omega arith in
      rw (halve (n - 1) j, halve n j, half) refl

-- n - 1 has no digit where the lowest of n is
less_at : (k n : ℕ) → 0 < n → n < 2 ^ k → (n - 1) / 2 ^ count_trailing_zeros k n % 2 ≡ 0
unfolding count_trailing_zeros
less_at zero n p l = omega arith
less_at (suc k) n p l =
    let half : n / 2 < 2 ^ k = omega (arith, two-pow-succ k) in
    less_at_step n (n % 2) (count_trailing_zeros k (n / 2)) refl p (λ q. less_at k (n / 2) q half)

-- past it n - 1 has those of n
less_past : (k n j : ℕ) → 0 < n → n < 2 ^ k → count_trailing_zeros k n < j → (n - 1) / 2 ^ j % 2 ≡ n / 2 ^ j % 2
unfolding count_trailing_zeros
less_past zero n j p l h = omega arith
less_past (suc k) n j p l h =
    let half : n / 2 < 2 ^ k = omega (arith, two-pow-succ k) in
    less_past_step n (n % 2) (count_trailing_zeros k (n / 2)) j refl p h (λ i q. less_past k (n / 2) i q half)

-- the word without its lowest bit, as the code has it
pub bit_past_lowest : (v j : ℕ) → 0 < v → v < 2 ^ 64 → bit (bit_and v (v - 1)) j ≡ (leb (count_trailing_zeros 64 v + 1) j && bit v j)
unfolding bit
bit_past_lowest v j p l =
    let low = lowest 64 v p l in
    let t = count_trailing_zeros 64 v in
    ⊎_elim
    (λ (lt : j < t). grind (arith, nat_tests, digit_and v (v - 1) j, low.under j lt))
    (λ (le : t ≤ j).
    ⊎_elim
    (λ (e : j ≡ t). rw e (grind (arith, nat_tests, digit_and v (v - 1) t, less_at 64 v p l)))
    (λ (ne : j ≡ t → ⊥). let past : t < j = omega arith in grind (arith, nat_tests, digit_and v (v - 1) j, less_past 64 v j p l past))
    (cases_eq j t))
    (cases_lt j t)

pub bit_minus : (a b k : ℕ) → b < 2 ^ 64 → k < 64 → bit (bit_and a ((2 ^ 64 - 1) - b)) k ≡ (bit a k && not (bit b k))
bit_minus a b k l h = bit_of_and a ((2 ^ 64 - 1) - b) k ∙ ap (λ x. bit a k && x) (bit_not b k l h)

digit_cut_high : (w l d : ℕ) → w / 2 ^ l * 2 ^ l / 2 ^ (l + d) ≡ w / 2 ^ (l + d)
digit_cut_high w l d =
    sym (shr-shr (w / 2 ^ l * 2 ^ l) l d) ∙ ap (λ x. x / 2 ^ d) (shl-shr (w / 2 ^ l) l) ∙ shr-shr w l d

digit_cut_low : (x d j : ℕ) → x * 2 ^ (suc d + j) / 2 ^ j % 2 ≡ 0
digit_cut_low x d j =
    let e : x * 2 ^ (suc d + j) ≡ x * 2 ^ suc d * 2 ^ j = ap (λ y. x * y) (pow-add 2 (suc d) j) ∙ sym (mul_assoc x (2 ^ suc d) (2 ^ j)) in
    let f : x * 2 ^ suc d ≡ 2 * (x * 2 ^ d) = ap (λ y. x * y) (pow-succ' 2 d) ∙ mul_left_comm x 2 (2 ^ d) in
    rw (e, shl-shr (x * 2 ^ suc d) j, f) (omega arith)

-- the word without its lowest l bits, as the code has it
pub bit_cut : (w l j : ℕ) → w < 2 ^ 64 → bit ((w / 2 ^ l * 2 ^ l) % 2 ^ 64) j ≡ (leb l j && bit w j)
unfolding bit
bit_cut w l j h =
    let whole : (w / 2 ^ l * 2 ^ l) % 2 ^ 64 ≡ w / 2 ^ l * 2 ^ l = omega (arith, shr_split w l) in
    rw whole
    (⊎_elim
    (λ (lt : j < l).
    let e : l ≡ suc (l - j - 1) + j = omega arith in
    let low : w / 2 ^ l * 2 ^ (suc (l - j - 1) + j) / 2 ^ j % 2 ≡ 0 = digit_cut_low (w / 2 ^ l) (l - j - 1) j in
    let low : w / 2 ^ l * 2 ^ l / 2 ^ j % 2 ≡ 0 = ap (λ m. w / 2 ^ l * 2 ^ m / 2 ^ j % 2) e ∙ low in
    grind (arith, nat_tests))
    (λ (le : l ≤ j).
    let e : j ≡ l + (j - l) = omega arith in
    let high : w / 2 ^ l * 2 ^ l / 2 ^ j ≡ w / 2 ^ j = ap (λ m. w / 2 ^ l * 2 ^ l / 2 ^ m) e ∙ digit_cut_high w l (j - l) ∙ ap (λ m. w / 2 ^ m) (sym e) in
    rw high (grind (arith, nat_tests)))
    (cases_lt j l))

pub zero_word : (n i : ℕ) → get_or {A = ℕ} (replicate n 0) i 0 ≡ 0
zero_word zero i = refl
zero_word (suc n) zero = refl
zero_word (suc n) (suc i) = zero_word n i

-- words of 0 hold nothing
pub holds_zero : (n q : ℕ) → holds (replicate n 0) q ≡ false
unfolding holds
holds_zero n q = rw (zero_word n (q / 64)) (bit_zero (q % 64))

-- a test of the word that stands at number p, if one does, that tells the bit of the number there
pub bit_there : (ws : List ℕ) (p : ℕ) (word : Option (Bor ℕ)) (r : Bool) (Test : Bor ℕ → Type 0) → IsItemAt ws (p / 64) word
    → MatchOption word (r ≡ false) Test → ((w : Bor ℕ) → Test w → r ≡ eqb (bit_and (w.now / 2 ^ (p % 64)) 1) 1) → r ≡ holds ws p
unfolding holds
bit_there ws p None r Test at h told = h ∙ sym (holds_past ws p at.3)
bit_there ws p (Some w) r Test at h told = told w h ∙ bit_read w.now (p % 64) ∙ ap (λ x. bit x (p % 64)) (at.3.1 0)
