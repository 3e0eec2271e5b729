-- How many numbers a set has, by the steps over them.
use Rattle.std.proofs.Common.{◌≡◌, ℕ, zero, suc, ◌+◌, ◌<◌, ◌≤◌, Bool, false, None, List, [], ◌∷◌, length, sym, subst, refl, ⊎_elim, add-one, arith}
use Rattle.std.specs.Iterator.{Drains}
use Rattle.std.proofs.lemmas.Bool.{cases_lt}
use Rattle.facts.specs.Sets.{holds, count, Next, GivesNext}

-- no number from a place on, up to another
pub count_none : (P : ℕ → Bool) (from n : ℕ) → from ≤ n → ((q : ℕ) → from ≤ q → q < n → P q ≡ false) → count P n ≡ count P from
unfolding count
count_none P from zero l none = let e : from ≡ 0 = omega arith in rw e refl
count_none P from (suc n) l none =
    ⊎_elim
    (λ (h : n < from). let e : from ≡ suc n = omega arith in rw e refl)
    (λ (h : from ≤ n). rw (none n h (omega arith)) (omega (arith, count_none P from n h (λ q a b. none q a (omega arith)))))
    (cases_lt n from)

-- one number more, past the next of the set
pub count_next : (P : ℕ → Bool) (from n : ℕ) → Next P from n → count P (n + 1) ≡ count P from + 1
unfolding count
count_next P from n next = rw (add-one n, next.here) (omega (arith, count_none P from n next.from next.before))

-- as many items come from a place on, up to the end, as are counted from there
module _ {S : Type 0} (words : S → List ℕ) (from : S → ℕ) (n : ℕ) where
  counted : (xs : List ℕ) (s : S) → from s ≤ n → Drains (GivesNext words from n) s xs → length xs + count (holds (words s)) (from s) ≡ count (holds (words s)) n
  counted [] s l (u, (t, same, end)) =
      let empty = subst (λ z. GivesNext words from n z None u) (sym same) end in
      omega (arith, count_none (holds (words s)) (from s) n l (λ q h k. empty.1 q h))
  counted (x ∷ xs) s l (u, (t, (j, step, rest), end)) =
      let more = counted xs j (omega (arith, step.1.0, step.1.2)) (u, (t, rest, end)) in
      let more : length xs + count (holds (words s)) (x + 1) ≡ count (holds (words s)) n =
      subst (λ w. length xs + count (holds w) (x + 1) ≡ count (holds w) n) step.0
      (subst (λ f. length xs + count (holds (words j)) f ≡ count (holds (words j)) n) step.1.2 more) in
      omega (arith, more, count_next (holds (words s)) (from s) x step.1.1)

  -- from the first number on
  pub counted_all : (xs : List ℕ) (s : S) (ws : List ℕ) → words s ≡ ws → from s ≡ 0 → Drains (GivesNext words from n) s xs → length xs ≡ count (holds ws) n
  unfolding count
  counted_all xs s ws same start all =
      let more = counted xs s (omega (arith, start)) all in
      let more : length xs + count (holds ws) 0 ≡ count (holds ws) n =
      subst (λ w. length xs + count (holds w) 0 ≡ count (holds w) n) same
      (subst (λ f. length xs + count (holds (words s)) f ≡ count (holds (words s)) n) start more) in
      omega (arith, more)
