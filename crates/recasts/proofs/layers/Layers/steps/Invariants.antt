use Rattle.std.proofs.Common.{◌≡◌, ℕ, ◌&&◌, ltb}
use Rattle.facts.specs.Sets.{holds}
use Rattle.recasts.specs.Layers.{steps_at, step_of, stratum_of}
use Rattle.recasts.proofs.layers.Layers.steps.Given as goal

abbrev pub invariant-loop-u : goal.invariant-loop-u
invariant-loop-u l = (a : ℕ) → holds l.set.words a ≡ (ltb a 512 && steps_at (step_of l.self) (stratum_of l.self) l.k l.u a)
