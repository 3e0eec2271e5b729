use Rattle.std.proofs.Common.{◌^◌, ◌<◌, slice_index, rules}
use Rattle.facts.proofs.Calls.{answers_at}
use Rattle.facts.proofs.NumberSet.combine.Goals as goal

pub returns-clause-words : goal.returns-clause-words
returns-clause-words g c i h =
    answers_at _ _ (λ k y. goal.F-post g c.args.f (slice_index c.args.self.now.words k) (slice_index c.args.other.now.words k) y) (λ k y q t. search rules) _ 0 g.row.W i
    c.from_fn.ensures.items h

pub returns-clause-fit : goal.returns-clause-fit
returns-clause-fit g c i h = answers_at _ _ (λ k y. slice_index c.args.other.now.words k < 2 ^ 64) (λ k y q t. search rules) _ 0 g.row.W i c.from_fn.ensures.items h
