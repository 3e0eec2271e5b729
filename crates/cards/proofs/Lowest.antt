-- The first place below a place that precedes it and is unfinished is the lowest of them.
use Rattle.std.proofs.Common.{◌≡◌, ℕ, ◌<◌, ◌≤◌, true, false, Option, Some, None, MatchOption, arith}
use Rattle.std.proofs.lemmas.Bool.{and_parts, ltb-true}
use Rattle.cards.specs.Moments.{Cleared, Lowest}
use Rattle.cards.specs.Cards.{size_of, precedes_of, done_of}
use Rattle.cards.specs.declared.card.Card.{Card}

module _ (card : Card) (p : ℕ) where
  abbrev pub Waits : ℕ → Type 0
  Waits u = (precedes_of card u p ≡ true) × (done_of card u ≡ false)

  abbrev pub Passed : ℕ → Type 0
  Passed u = precedes_of card u p ≡ true → done_of card u ≡ true

  below : (u : ℕ) → precedes_of card u p ≡ true → u < p
  below u e = ltb-true u p (and_parts _ _ (card.plan.upward u p e)).0

  pub lowest : p < size_of card → (r : Option ℕ)
      → MatchOption r ((k : ℕ) → 0 ≤ k → k < p → Passed k) (λ u. (0 ≤ u) × (u < p) × Waits u × ((k : ℕ) → 0 ≤ k → k < u → Passed k))
      → MatchOption r (Cleared (size_of card) (precedes_of card) (done_of card) p) (λ u. Lowest (size_of card) (precedes_of card) (done_of card) p u)
  lowest h None w = λ u l e. w u (omega arith) (below u e) e
  lowest h (Some u) w = record { there = omega (arith, w.1); before = w.2.0; unfinished = w.2.1; lowest = λ v l. w.3 v (omega arith) l }
