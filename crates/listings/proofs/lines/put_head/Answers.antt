use Rattle.decimals.proofs.Puts.{puts_text_on}
use Rattle.listings.specs.Lines.{head_line}
use Rattle.listings.proofs.lines.put_head.Goals as goal

pub returns-clause-puts : goal.returns-clause-puts
unfolding head_line
returns-clause-puts c =
    puts_text_on c.put_entry.ensures.puts (puts_text_on c.put_entry-2.ensures.puts (puts_text_on c.put_entry-3.ensures.puts (puts_text_on c.put_entry-4.ensures.puts c.end_line.ensures)))
