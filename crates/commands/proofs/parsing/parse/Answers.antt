use Rattle.std.proofs.Common.{map, string_bytes, rules}
use Rattle.commands.proofs.Asking.{rack_asked, explain_unasked}
use Rattle.commands.proofs.parsing.parse.Goals as goal

pub returns-in-rack : goal.returns-in-rack
returns-in-rack c =
    rack_asked (map string_bytes c.args.words.now) (map string_bytes c.in-Some.rest.now) c.in-Some.word.now c.rack.result
    c.in-Some.ensures (search rules) c.rack.ensures

pub returns-in_err-only_number-in-explain : goal.returns-in_err-only_number-in-explain
returns-in_err-only_number-in-explain c =
    rw c.from_residual-in_err-only_number-in-explain.ensures
    (explain_unasked (map string_bytes c.args.words.now) (map string_bytes c.in-Some.rest.now) c.in-Some.word.now
    c.in-Some.ensures (search rules) c.in_err-only_number-in-explain.ensures)
