use Rattle.std.proofs.Common.{string_bytes, arith, ltb-false, ltb-true}
use Rattle.commands.proofs.Firsts.{none_mapped, first_mapped}
use Rattle.commands.proofs.words.first_word.Goals as goal

pub returns-in-empty : goal.returns-in-empty
returns-in-empty c = none_mapped string_bytes c.args.words.now (omega (arith, ltb-true))

pub returns-in-len1-up : goal.returns-in-len1-up
returns-in-len1-up c =
    first_mapped string_bytes c.args.words.now c.word-item.result c.as_str.result.now (omega (arith, ltb-false)) c.word-item.is c.as_str.ensures.value
