use Rattle.std.proofs.Common.{◌+◌, ◌*◌, ◌≤◌}
use Rattle.decimals.specs.Texts.{PutsText}
use Rattle.listings.specs.Shown.{place_lines}
use Rattle.listings.specs.Pages.{shown_on}
use Rattle.listings.proofs.writing.put_rows.Given as goal

abbrev pub invariant-loop-v : goal.invariant-loop-v
invariant-loop-v l =
    record {
      few : l.writer.at ≤ 113 + 127 * l.v;
      puts : PutsText l.initial.writer (place_lines (shown_on l.page) l.v) l.writer;
    }
