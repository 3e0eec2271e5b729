use Rattle.std.proofs.Common.{◌≡◌, ℕ, ◌+◌, ◌++◌, refl, ap, add-one, arith}
use Rattle.decimals.proofs.Puts.{puts_text_on, puts_text_as}
use Rattle.listings.specs.declared.lines.Row.{Row}
use Rattle.listings.specs.Lines.{place_line}
use Rattle.listings.specs.Shown.{Shown, place_lines}
use Rattle.listings.specs.Pages.{shown_on}
use Rattle.listings.proofs.writing.put_rows.Goals as goal

-- one line more
lines_more : (s : Shown) (v : ℕ) → place_lines s v ++ place_line v (s.step v) (s.level v) (s.stratum v) (s.begin v) ≡ place_lines s (v + 1)
lines_more s v = rw add-one refl

pub loop-v-preserved : goal.loop-v-preserved
loop-v-preserved c =
    let few = c.put_row.ensures.few in
    let s = shown_on c.args.page.now in
    let v = c.loop-v.v in
    let row = ap (λ (q : Row). place_line q.place q.step q.level q.stratum q.begin) c.row.ensures in
    record {
      few = omega arith;
      puts = puts_text_as (lines_more s v) (puts_text_on c.loop-v.invariant.puts (puts_text_as row c.put_row.ensures.puts));
    }
