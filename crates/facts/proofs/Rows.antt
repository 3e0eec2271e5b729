-- Rows of words: two rows word by word, a row told below a number, the first number from a place on.
use Rattle.std.proofs.Common.{◌≡◌, ℕ, ◌+◌, ◌-◌, ◌*◌, ◌/◌, ◌%◌, ◌^◌, ◌<◌, ◌≤◌, Bool, true, false, ◌&&◌, eqb, leb, List, length, get_or, sym, subst, refl, ap, ◌∙◌, ap₂, ⊎_elim, arith}
use lib.Bits.{bit_and}
use lib.Count.{count_trailing_zeros}
use Rattle.std.proofs.lemmas.Bool.Decides.{nat_tests}
use Rattle.std.proofs.lemmas.Bool.{cases_lt, false≢true}
use Rattle.std.proofs.lemmas.Nat.{and_le_l}
use Rattle.facts.specs.Sets.{bit, holds, Next}
use Rattle.facts.proofs.Words.{bit_zero, bit_cut, bit_past_lowest, holds_past, Lowest, lowest}

-- each word of r is f of those of a and b, and f does op on bits: then r holds op of what a and b hold
pub zipped : (f : ℕ → ℕ → ℕ) (op : Bool → Bool → Bool) (a b r : List ℕ) (n : ℕ) → length a ≤ n → length b ≤ n → length r ≤ n
    → op false false ≡ false
    → ((k j : ℕ) → k < n → j < 64 → bit (f (get_or a k 0) (get_or b k 0)) j ≡ op (bit (get_or a k 0) j) (bit (get_or b k 0) j))
    → ((k : ℕ) → k < n → get_or r k 0 ≡ f (get_or a k 0) (get_or b k 0)) → (q : ℕ) → holds r q ≡ op (holds a q) (holds b q)
unfolding holds
zipped f op a b r n la lb lr none bits words q =
    ⊎_elim
    (λ (h : q / 64 < n). ap (λ w. bit w (q % 64)) (words (q / 64) h) ∙ bits (q / 64) (q % 64) h (omega arith))
    (λ (h : n ≤ q / 64).
    holds_past r q (omega arith) ∙ sym none
    ∙ sym (ap₂ op (holds_past a q (omega arith)) (holds_past b q (omega arith))))
    (cases_lt (q / 64) n)

-- no number from p on, below 64 * n, is in the words
abbrev pub Clear : List ℕ → ℕ → ℕ → Type 0
Clear words p n = (q : ℕ) → p ≤ q → q < 64 * n → holds words q ≡ false

pub all_clear : (words : List ℕ) (p n : ℕ) → length words ≤ n → Clear words p n → (q : ℕ) → p ≤ q → holds words q ≡ false
all_clear words p n long below q from =
    ⊎_elim
    (λ (h : q / 64 < n). below q from (omega arith))
    (λ (h : n ≤ q / 64). holds_past words q (omega arith))
    (cases_lt (q / 64) n)

-- v is the word at n, without its bits below p
module _ (words : List ℕ) (p n v : ℕ) (from : p / 64 ≤ n) (below : Clear words p n)
    (word : (j : ℕ) → bit v j ≡ (leb (p - 64 * n) j && bit (get_or words n 0) j)) where
  at_word : (q : ℕ) → p ≤ q → q / 64 ≡ n → holds words q ≡ bit v (q % 64)
  unfolding holds
  at_word q h e =
      let w : bit v (q % 64) ≡ (leb (p - 64 * n) (q % 64) && bit (get_or words n 0) (q % 64)) = word (q % 64) in
      rw e (grind (arith, nat_tests))

  pub clear_more : v ≡ 0 → Clear words p (n + 1)
  clear_more e q h l =
      ⊎_elim
      (λ (k : q / 64 < n). below q h (omega arith))
      (λ (k : n ≤ q / 64). at_word q h (omega arith) ∙ ap (λ x. bit x (q % 64)) e ∙ bit_zero (q % 64))
      (cases_lt (q / 64) n)

  module _ (pos : 0 < v) (fits : v < 2 ^ 64) where
    low : Lowest 64 v (count_trailing_zeros 64 v)
    low = lowest 64 v pos fits

    pub low_below : count_trailing_zeros 64 v < 64
    low_below = low.below

    low_set : bit v (count_trailing_zeros 64 v) ≡ true
    unfolding bit
    low_set = ap (λ d. eqb d 1) low.set

    low_under : (j : ℕ) → j < count_trailing_zeros 64 v → bit v j ≡ false
    unfolding bit
    low_under j h = ap (λ d. eqb d 1) (low.under j h)

    pub found_from : p ≤ 64 * n + count_trailing_zeros 64 v
    found_from =
        let t : count_trailing_zeros 64 v < 64 = low.below in
        let w : bit v (count_trailing_zeros 64 v) ≡ (leb (p - 64 * n) (count_trailing_zeros 64 v) && bit (get_or words n 0) (count_trailing_zeros 64 v)) = word (count_trailing_zeros 64 v) in
        let s : bit v (count_trailing_zeros 64 v) ≡ true = low_set in
        grind (arith, nat_tests)

    pub found_here : holds words (64 * n + count_trailing_zeros 64 v) ≡ true
    found_here =
        let t : count_trailing_zeros 64 v < 64 = low.below in
        let m : (64 * n + count_trailing_zeros 64 v) % 64 ≡ count_trailing_zeros 64 v = omega arith in
        at_word (64 * n + count_trailing_zeros 64 v) found_from (omega arith) ∙ ap (bit v) m ∙ low_set

    pub found_before : (q : ℕ) → p ≤ q → q < 64 * n + count_trailing_zeros 64 v → holds words q ≡ false
    found_before q h l =
        let t : count_trailing_zeros 64 v < 64 = low.below in
        ⊎_elim
        (λ (k : q / 64 < n). below q h (omega arith))
        (λ (k : n ≤ q / 64). at_word q h (omega arith) ∙ low_under (q % 64) (omega arith))
        (cases_lt (q / 64) n)

-- the word of p without its bits below p
abbrev pub InHand : List ℕ → ℕ → ℕ → Type 0
InHand words p v = (j : ℕ) → bit v j ≡ (leb (p % 64) j && bit (get_or words (p / 64) 0) j)

bit_below : (a j : ℕ) (x : Bool) → j < 64 → (leb a j && x) ≡ true → a < 64
bit_below a j x l e = grind (arith, nat_tests)

cut_again : (a l j : ℕ) (x w : Bool) → l ≤ a → x ≡ (leb l j && w) → (leb a j && x) ≡ (leb a j && w)
cut_again a l j x w h e = grind (arith, nat_tests)

-- where some bit stands past t, t is not the last place of a word
past_in_word : (v t r : ℕ) → 0 < r → r < 2 ^ 64 → ((j : ℕ) → bit r j ≡ (leb (t + 1) j && bit v j)) → t + 1 < 64
unfolding bit
past_in_word v t r pos fits cut =
    let low = lowest 64 r pos fits in
    bit_below (t + 1) (count_trailing_zeros 64 r) _ low.below (sym (cut (count_trailing_zeros 64 r)) ∙ ap (λ d. eqb d 1) low.set)

some_bit : (v j : ℕ) → bit v j ≡ true → 0 < v
some_bit v j e =
    ⊎_elim
    (λ (h : v < 1). let z : v ≡ 0 = omega arith in absurd (false≢true (sym (bit_zero j) ∙ ap (λ x. bit x j) (sym z) ∙ e)))
    (λ (h : 1 ≤ v). h)
    (cases_lt v 1)

-- n is the next number from p on, and v is the word of what comes after, which begins at base
pub record Passed (words : List ℕ) (p n base v : ℕ) : Type 0 where
  pub next : Next (holds words) p n
  pub based : 0 < v → base ≡ 64 * ((n + 1) / 64)
  pub hand : 0 < v → InHand words (n + 1) v

module _ (words : List ℕ) (p v : ℕ) (hand : InHand words p v) (pos : 0 < v) (fits : v < 2 ^ 64) where
  none_under : Clear words p (p / 64)
  none_under q h l = absurd (omega arith)

  cut_off : (j : ℕ) → bit v j ≡ (leb (p - 64 * (p / 64)) j && bit (get_or words (p / 64) 0) j)
  cut_off j = let e : p % 64 ≡ p - 64 * (p / 64) = omega arith in hand j ∙ ap (λ l. leb l j && bit (get_or words (p / 64) 0) j) e

  lowest_next : Next (holds words) p (64 * (p / 64) + count_trailing_zeros 64 v)
  lowest_next = record {
    from = found_from words p (p / 64) v (omega arith) none_under cut_off pos fits;
    here = found_here words p (p / 64) v (omega arith) none_under cut_off pos fits;
    before = found_before words p (p / 64) v (omega arith) none_under cut_off pos fits;
  }

  inside : 0 < bit_and v (v - 1) → count_trailing_zeros 64 v + 1 < 64
  inside more = past_in_word v (count_trailing_zeros 64 v) (bit_and v (v - 1)) more (omega (arith, and_le_l v (v - 1))) (λ j. bit_past_lowest v j pos fits)

  word_on : 0 < bit_and v (v - 1) → InHand words (64 * (p / 64) + count_trailing_zeros 64 v + 1) (bit_and v (v - 1))
  word_on more j =
      let t = count_trailing_zeros 64 v in
      let small = inside more in
      let place : (64 * (p / 64) + t + 1) / 64 ≡ p / 64 = omega arith in
      let digit : (64 * (p / 64) + t + 1) % 64 ≡ t + 1 = omega arith in
      rw (place, digit) (bit_past_lowest v j pos fits ∙ cut_again (t + 1) (p % 64) j _ _ (omega (arith, lowest_next.from)) (hand j))

  -- the lowest bit of the word in hand is the next number
  pub passed : (base : ℕ) → base ≡ 64 * (p / 64) → Passed words p (base + count_trailing_zeros 64 v) base (bit_and v (v - 1))
  passed base at = rw at record {
    next = lowest_next;
    based = λ more. omega (arith, inside more);
    hand = word_on;
  }

-- the next number from one that is in the set on is that one
next_same : (P : ℕ → Bool) (n m : ℕ) → P n ≡ true → Next P n m → m ≡ n
next_same P n m here next =
    ⊎_elim
    (λ (h : n < m). absurd (false≢true (sym (next.before n (omega arith) h) ∙ here)))
    (λ (h : m ≤ n). omega (arith, next.from))
    (cases_lt n m)

-- the next number from p on, and the word that it is in, as the code has it
module _ (words : List ℕ) (p n : ℕ) (next : Next (holds words) p n) (fits : get_or words (n / 64) 0 < 2 ^ 64) where
  taken : InHand words n ((get_or words (n / 64) 0 / 2 ^ (n % 64) * 2 ^ (n % 64)) % 2 ^ 64)
  taken j = bit_cut (get_or words (n / 64) 0) (n % 64) j fits

  pub taken_some : 0 < (get_or words (n / 64) 0 / 2 ^ (n % 64) * 2 ^ (n % 64)) % 2 ^ 64
  unfolding holds
  taken_some =
      let here : bit (get_or words (n / 64) 0) (n % 64) ≡ true = next.here in
      some_bit _ (n % 64) (taken (n % 64) ∙ grind (arith, nat_tests))

  taken_passed : Passed words n (64 * (n / 64) + count_trailing_zeros 64 ((get_or words (n / 64) 0 / 2 ^ (n % 64) * 2 ^ (n % 64)) % 2 ^ 64)) (64 * (n / 64)) (bit_and ((get_or words (n / 64) 0 / 2 ^ (n % 64) * 2 ^ (n % 64)) % 2 ^ 64) ((get_or words (n / 64) 0 / 2 ^ (n % 64) * 2 ^ (n % 64)) % 2 ^ 64 - 1))
  taken_passed = passed words n _ taken taken_some (omega arith) (64 * (n / 64)) refl

  pub passed_over : Passed words p n (64 * (n / 64)) (bit_and ((get_or words (n / 64) 0 / 2 ^ (n % 64) * 2 ^ (n % 64)) % 2 ^ 64) ((get_or words (n / 64) 0 / 2 ^ (n % 64) * 2 ^ (n % 64)) % 2 ^ 64 - 1))
  passed_over =
      let same = next_same (holds words) n _ next.here taken_passed.next in
      record {
        next = next;
        based = λ more. taken_passed.based more ∙ ap (λ m. 64 * ((m + 1) / 64)) same;
        hand = λ more. subst (λ m. InHand words (m + 1) (bit_and ((get_or words (n / 64) 0 / 2 ^ (n % 64) * 2 ^ (n % 64)) % 2 ^ 64) ((get_or words (n / 64) 0 / 2 ^ (n % 64) * 2 ^ (n % 64)) % 2 ^ 64 - 1))) same (taken_passed.hand more);
      }

pub next_within : (words : List ℕ) (p n : ℕ) → Next (holds words) p n → n < 64 * length words
next_within words p n next =
    ⊎_elim
    (λ (h : n / 64 < length words). omega arith)
    (λ (h : length words ≤ n / 64). absurd (false≢true (sym (holds_past words n h) ∙ next.here)))
    (cases_lt (n / 64) (length words))

-- a set that is told below n and empty past it, against a set of numbers below n
pub told_all : (words : List ℕ) (P : ℕ → Bool) (n room : ℕ) → n ≤ room
    → ((q : ℕ) → q < n → q < room → holds words q ≡ P q) → ((q : ℕ) → n ≤ q → holds words q ≡ false)
    → ((q : ℕ) → n ≤ q → P q ≡ false) → (q : ℕ) → holds words q ≡ P q
told_all words P n room fits below past none q =
    ⊎_elim
    (λ (h : q < n). below q h (omega arith))
    (λ (h : n ≤ q). past q h ∙ sym (none q h))
    (cases_lt q n)
