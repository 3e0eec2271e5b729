-- The three sets of a step, as words of bits.
use Rattle.std.specs.Prelude.{◌≡◌, ℕ}
use Rattle.facts.specs.Sets.{holds}
use Rattle.books.specs.Book.{Model}
use Rattle.books.specs.declared.step_facts.StepFacts.{StepFacts}

-- the sets are those of step a of the book
pub record Gathers (m : Model) (a : ℕ) (s : StepFacts) : Type 0 where
  pub needs : (q : ℕ) → holds s.needs.words q ≡ m.needs a q
  pub adds : (q : ℕ) → holds s.adds.words q ≡ m.adds a q
  pub deletes : (q : ℕ) → holds s.deletes.words q ≡ m.deletes a q
