-- Sets of facts that have no fact from some number on, and when two of them are the same.
use Rattle.std.proofs.Common.{◌≡◌, ℕ, ◌≤◌, Bool, true, false, not, ltb, List, [], ◌∷◌, Decides, sym, refl, ◌∙◌, inl, inr, arith}
use Rattle.std.proofs.lemmas.Bool.{cases_lt, both_ways, and_parts, and_left, or_from, not-true, not_from_false, ltb-true, ne_eqb}
use Rattle.std.proofs.lemmas.Bool.Decides.{nat_tests}
use Rattle.facts.specs.Sets.{First}
use Rattle.books.specs.Book.{Model, Lawful, Facts, after}
use Rattle.books.specs.Listed.{listed}
use Rattle.plans.specs.Steps.{some, passed}
use Rattle.plans.specs.Plans.{singly, finally}
use Rattle.worked.proofs.Tests.{Within, below, every, decides_below}

-- a test of two answers that are the same
abbrev pub alike : Bool → Bool → Bool
alike true b = b
alike false b = not b

pub decides_alike : (a b : Bool) → Decides (alike a b) (a ≡ b)
decides_alike a b = (grind (arith, nat_tests), grind (arith, nat_tests))

-- two sets with no fact from n on that are alike below n
pub same_shown : (n : ℕ) (f g : Facts) → Within n f → Within n g → below (λ p. alike (f p) (g p)) n ≡ true → (p : ℕ) → f p ≡ g p
same_shown n f g nf ng e p =
    elim (cases_lt p n) [
      | inl l ↦ (decides_below (λ p. alike (f p) (g p)) (λ p. f p ≡ g p) (λ p. decides_alike (f p) (g p)) n).0 e p l
      | inr l ↦ nf p l ∙ sym (ng p l)
    ]

pub listed_within : (n : ℕ) (xs : List ℕ) → every (λ x. ltb x n) xs ≡ true → Within n (listed xs)
listed_within n [] e p l = refl
listed_within n (x ∷ xs) e p l =
    let t = and_parts (ltb x n) (every (λ x. ltb x n) xs) e in
    or_from _ _ (ne_eqb p x (λ q. omega (arith, ltb-true x n t.0))) (listed_within n xs t.1 p l)

-- p is the first number of the set
pub first_shown : (f : ℕ → Bool) (p : ℕ) → f p ≡ true → below (λ q. not (f q)) p ≡ true → First f p
first_shown f p h e = record {
  here = h;
  before = (decides_below (λ q. not (f q)) (λ q. f q ≡ false) (λ q. (λ e. not-true (f q) e, λ e. not_from_false (f q) e)) p).0 e;
}

module _ (m : Model) (law : Lawful m) where
  none_of : (sets : ℕ → Facts) → ((a p : ℕ) → m.facts ≤ p → sets a p ≡ false) → (xs : List ℕ) (p : ℕ) → m.facts ≤ p → some (λ a. sets a p) xs ≡ false
  none_of sets none [] p l = refl
  none_of sets none (x ∷ xs) p l = or_from _ _ (none x p l) (none_of sets none xs p l)

  pub passed_within : (E : Facts) (xs : List ℕ) → Within m.facts E → Within m.facts (passed m E xs)
  passed_within E xs w p l = or_from _ _ (and_left _ _ (w p l)) (none_of m.adds law.adds.no_fact xs p l)

  pub singly_within : (E : Facts) (xs : List ℕ) → Within m.facts E → Within m.facts (singly m E xs)
  singly_within E [] w = w
  singly_within E (a ∷ xs) w = singly_within (after m E a) xs (λ p l. or_from _ _ (and_left _ _ (w p l)) (law.adds.no_fact a p l))

  pub finally_within : (E : Facts) (plan : List (List ℕ)) → Within m.facts E → Within m.facts (finally m E plan)
  finally_within E [] w = w
  finally_within E (xs ∷ rest) w = finally_within (passed m E xs) rest (passed_within E xs w)
