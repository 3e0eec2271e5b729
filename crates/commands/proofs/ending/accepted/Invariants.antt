use Rattle.std.proofs.Common.{◌≡◌, ◌++◌, ◌≤◌, string_bytes, codes}
use Rattle.facts.specs.Sets.{holds}
use Rattle.commands.specs.Accepted.{listed}
use Rattle.commands.proofs.ending.accepted.Given as goal

-- the facts below the iterator's place are listed
abbrev pub invariant-loop-p : goal.invariant-loop-p
invariant-loop-p l =
    (l.p-iterator.set.now.words ≡ l.facts.words)
    × (l.p-iterator.from ≤ 1024)
    × (string_bytes l.text ≡ codes "accepted: facts" ++ listed (holds l.facts.words) l.p-iterator.from)
