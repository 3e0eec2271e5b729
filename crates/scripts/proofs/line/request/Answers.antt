use Rattle.std.proofs.Common.{codes, rules}
use Rattle.scripts.proofs.Requests.{Without, found_or, found_all}
use Rattle.scripts.proofs.line.request.Goals as goal

pub returns : goal.returns
returns c =
    let line = c.args.line.now in
    let begins = Without (codes "begin ") line in
    let finishes = Without (codes "finish ") line in
    let puts = Without (codes "put back ") line in
    let looks = Without (codes "look ") line in
    let a = c.call.result in
    let b = c.or_else.result in
    let d = c.or_else-2.result in
    let e = c.or_else-3.result in
    let f = found_or line a b begins finishes _ c.call.ensures c.or_else.ensures (λ h. search rules) in
    let g = found_or line b d (begins × finishes) puts _ f c.or_else-2.ensures (λ h. search rules) in
    let k = found_or line d e ((begins × finishes) × puts) looks _ g c.or_else-3.ensures (λ h. search rules) in
    found_all line e k
