use Rattle.std.proofs.Common.{◌+◌, ◌≤◌, arith}
use Rattle.facts.specs.Sets.{holds}
use Rattle.cards.specs.Cards.{size_of}
use Rattle.recasts.specs.Layers.{step_of, stratum_of}
use Rattle.recasts.proofs.Rows.{total_more, total_few}
use Rattle.recasts.proofs.layers.Layers.total.Goals as goal

pub overflow_add-total : goal.overflow_add-total
overflow_add-total c =
    let l = c.args.self.now in
    let more = total_more (step_of l) (stratum_of l) (size_of l.card.now) c.loop-k.k (holds c.steps.result.words) c.loop-k.total c.len-total.result c.steps.ensures c.len-total.ensures c.loop-k.invariant in
    let few = total_few (step_of l) (stratum_of l) (size_of l.card.now) (c.loop-k.k + 1) in
    let places : size_of l.card.now ≤ 256 = l.card.now.plan.few in
    omega arith

pub loop-k-preserved : goal.loop-k-preserved
loop-k-preserved c =
    let l = c.args.self.now in
    total_more (step_of l) (stratum_of l) (size_of l.card.now) c.loop-k.k (holds c.steps.result.words) c.loop-k.total c.len-total.result c.steps.ensures c.len-total.ensures c.loop-k.invariant

pub returns-clause-few : goal.returns-clause-few
returns-clause-few c =
    let l = c.args.self.now in
    let few = total_few (step_of l) (stratum_of l) (size_of l.card.now) c.loop-k.k in
    let places : size_of l.card.now ≤ 256 = l.card.now.plan.few in
    let i = c.loop-k.invariant in
    omega arith
