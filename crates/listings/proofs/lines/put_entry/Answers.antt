use Rattle.std.proofs.Common.{arith}
use Rattle.std.proofs.lemmas.Fmt.{length-decimal-le}
use Rattle.decimals.proofs.Puts.{puts_text_on}
use Rattle.listings.proofs.lines.put_entry.Goals as goal

pub put_decimal-requires : goal.put_decimal-requires
put_decimal-requires c =
    let l = length-decimal-le 20 c.args.n (omega arith) (omega arith) (omega arith) in
    omega (arith, c.put_text.ensures.puts.puts.place)

pub returns : goal.returns
returns c =
    let l = length-decimal-le 20 c.args.n (omega arith) (omega arith) (omega arith) in
    record {
      puts = puts_text_on c.put_text.ensures.puts c.put_decimal.ensures;
      few = omega (arith, c.put_text.ensures.puts.puts.place, c.put_decimal.ensures.puts.place);
    }
