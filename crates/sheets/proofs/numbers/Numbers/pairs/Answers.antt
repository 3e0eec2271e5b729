use Rattle.std.proofs.Common.{map, ◌/◌, length, ap, ◌∙◌}
use Rattle.sheets.specs.Numbers.{number_in}
use Rattle.sheets.proofs.Pairs.{chunks_say}
use Rattle.sheets.proofs.numbers.Numbers.pairs.Goals as goal

pub returns : goal.returns
returns c =
    let bs = c.args.self.now.bytes.now in
    ap (map number_in) c.as_chunks.ensures.front ∙ chunks_say bs 0 (length bs / 2)
