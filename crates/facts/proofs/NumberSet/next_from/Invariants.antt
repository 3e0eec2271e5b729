use Rattle.std.proofs.Common.{◌≡◌, ◌+◌, ◌-◌, ◌*◌, ◌/◌, length}
use Rattle.facts.proofs.Rows.{Clear}
use Rattle.facts.proofs.NumberSet.next_from.Given as goal

abbrev pub invariant-loop-i : goal.invariant-loop-i
invariant-loop-i g l =
    let n = l.p / 64 + length l.yielded in
    Clear l.self.words l.p n × (l.low ≡ l.p - 64 * n)
