use Rattle.std.proofs.Common.{◌+◌, ◌*◌, refl, ◌∙◌}
use Rattle.sheets.proofs.Parts.{numbers_part}
use Rattle.sheets.proofs.numbers.Numbers.of_list.Goals as goal

pub returns : goal.returns
returns c = c.new.ensures ∙ numbers_part c.args.bytes.now c.args.at c.args.n (c.args.at + 2 * c.args.n) refl c.requires
