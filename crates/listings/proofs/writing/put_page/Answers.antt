use Rattle.std.proofs.Common.{ap}
use Rattle.decimals.proofs.Puts.{puts_text_on, puts_text_as}
use Rattle.listings.specs.declared.lines.Head.{Head}
use Rattle.listings.specs.Lines.{head_line}
use Rattle.listings.proofs.writing.put_page.Goals as goal

pub returns : goal.returns
returns c =
    let head = ap (λ (h : Head). head_line h.places h.levels h.strata h.seconds) c.head.ensures in
    puts_text_on (puts_text_as head c.put_head.ensures.puts) c.put_rows.ensures
