use Rattle.decimals.proofs.Puts.{puts_text_on}
use Rattle.listings.specs.Lines.{refused_line}
use Rattle.listings.proofs.lines.put_refused.Goals as goal

pub returns : goal.returns
unfolding refused_line
returns c = puts_text_on c.put_entry.ensures.puts c.end_line.ensures
