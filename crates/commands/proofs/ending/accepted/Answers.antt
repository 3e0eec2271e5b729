use Rattle.std.proofs.Common.{ap, ◌∙◌, string_bytes, codes, arith}
use Rattle.facts.specs.Sets.{holds}
use Rattle.facts.specs.declared.Members.{Members}
use Rattle.commands.proofs.Listing.{listed_none, listed_next, listed_to}
use Rattle.commands.proofs.ending.accepted.Goals as goal

pub loop-p-init : goal.loop-p-init
loop-p-init c =
    let same = c.into_iter-p-iterator.ensures.into_iter_gives in
    let from = ap (λ (i : Members 16). i.from) same ∙ c.iter-p-items.ensures.from in (
      ap (λ (i : Members 16). i.set.now.words) same ∙ c.iter-p-items.ensures.set,
      omega arith,
      rw from (listed_none (holds c.args.facts.now.words) (codes "accepted: facts") (string_bytes c.in_ok-text.text) c.in_ok-text.ensures.ok),
    )

pub loop-p-preserved : goal.loop-p-preserved
loop-p-preserved c =
    let set = holds c.args.facts.now.words in
    let step = rw c.loop-p.invariant.0 at c.in-Some.ensures.steps in (
      step.0,
      omega arith,
      rw step.1.2
          (listed_next set c.loop-p.p-iterator.from c.in-Some.p (codes "accepted: facts") (string_bytes c.loop-p.text) (string_bytes c.write.new.self) c.loop-p.invariant.2 step.1.1 c.in_ok-write.ensures.bytes),
    )

pub returns : goal.returns
returns c =
    let set = holds c.args.facts.now.words in
    let step = rw c.loop-p.invariant.0 at c.in-None.ensures.steps in
    let all = listed_to set c.loop-p.p-iterator.from 1024 c.loop-p.invariant.1 (λ q a b. step.1 q a) in
    rw all c.loop-p.invariant.2
