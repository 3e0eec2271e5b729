use Rattle.std.proofs.Common.{◌≡◌, ℕ, ◌<◌, length}
use Rattle.std.specs.List.{HoldsAt}
use Rattle.books.specs.Book.{Model}
use Rattle.checks.specs.Drafts.{steps_of, Told}
use Rattle.checks.specs.Levels.{RowAt}
use Rattle.checks.proofs.level.Level.fill_rows.Given as goal

abbrev pub invariant-loop-i : goal.invariant-loop-i
invariant-loop-i l =
    (length l.rows ≡ 256)
    × ((m : Model) → Told m l.self.steps.now → (k : ℕ) → k < l.i → HoldsAt (RowAt m (steps_of l.self.steps.now) k) l.rows k)
