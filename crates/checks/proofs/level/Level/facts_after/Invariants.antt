use Rattle.std.proofs.Common.{◌≡◌, ℕ, take}
use Rattle.facts.specs.Sets.{holds}
use Rattle.books.specs.Book.{Model}
use Rattle.plans.specs.Steps.{some}
use Rattle.checks.specs.Drafts.{steps_of, Told}
use Rattle.checks.proofs.level.Level.facts_after.Given as goal

abbrev pub invariant-loop-step : goal.invariant-loop-step
invariant-loop-step l =
    (m : Model) → Told m l.self.steps.now
    → ((q : ℕ) → holds l.deletes.words q ≡ some (λ a. m.deletes a q) (take l.step-index (steps_of l.self.steps.now)))
    × ((q : ℕ) → holds l.adds.words q ≡ some (λ a. m.adds a q) (take l.step-index (steps_of l.self.steps.now)))
