use Rattle.scripts.proofs.Numbers.{names_stripped}
use Rattle.scripts.proofs.line.place_after.Goals as goal

pub returns : goal.returns
returns c =
    let front = c.in_ok-strip_prefix.ensures.cases in
    names_stripped c.args.words.now c.args.line.now c.in_ok-strip_prefix.field-0.now front.0 c.number.result front.1.1 front.2
    c.number.ensures
