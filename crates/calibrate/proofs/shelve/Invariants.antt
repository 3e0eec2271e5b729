use Rattle.std.proofs.Common.{◌≡◌, ℕ, ◌||◌}
use Rattle.facts.specs.Sets.{holds}
use Rattle.calibrate.specs.Shelf.{shelved}
use Rattle.calibrate.proofs.shelve.Given as goal

abbrev pub invariant-loop-logger : goal.invariant-loop-logger
invariant-loop-logger l =
    (q : ℕ) → holds l.board.facts.words q ≡ (holds l.initial.board.facts.words q || shelved l.rack.baths l.rack.loggers l.logger q)
