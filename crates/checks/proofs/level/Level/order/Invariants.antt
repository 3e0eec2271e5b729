use Rattle.std.proofs.Common.{◌≡◌, ℕ, ◌+◌, List, length}
use Rattle.facts.specs.Sets.{holds}
use Rattle.books.specs.Book.{Model}
use Rattle.plans.proofs.Taking.{Taking}
use Rattle.checks.specs.Drafts.{steps_of, Told}
use Rattle.checks.specs.Levels.{Grown}
use Rattle.checks.proofs.level.Level.order.Given as goal

abbrev pub invariant-loop-turn : goal.invariant-loop-turn
invariant-loop-turn l =
    (length l.draft.items ≡ length l.initial.draft.items + l._turn-index)
    × ((m : Model) → Told m l.self.steps.now
    → (bs : List ℕ) × Taking m (steps_of l.self.steps.now) (holds l.left.words) bs × (length bs ≡ l._turn-index)
    × Grown m bs l.self.number l.initial.draft.items l.draft.items)
