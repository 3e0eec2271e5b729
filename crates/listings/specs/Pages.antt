-- What the program holds of a listing before it writes it.
use Rattle.std.specs.Prelude.{ℕ, List, Ok, Err, Result, slice_index_or}
use Rattle.sheets.specs.Faults.{too_long_number}
use Rattle.checks.specs.Faults.{plan_number}
use Rattle.checks.specs.Tables.{blank}
use Rattle.timetables.specs.Measures.{step_scale, second_scale}
use Rattle.timetables.specs.Timetable.{by_place}
use Rattle.listings.specs.declared.lines.Head.{Head}
use Rattle.listings.specs.declared.lines.Row.{Row}
use Rattle.listings.specs.declared.page.Page.{Page}
use Rattle.listings.specs.declared.page.ListFault.{ListFault}
use Rattle.listings.specs.declared.page.ListFault.TheVariants.{TooLong, Plan}
use Rattle.listings.specs.Lines.{refused_line}
use Rattle.listings.specs.Shown.{Shown, shown_text}

-- what a page shows
abbrev pub shown_on : Page → Shown
shown_on p = record {
  places = p.plan.count;
  levels = p.levels;
  strata = p.strata.count;
  seconds = p.end.count;
  step = λ u. (slice_index_or p.plan.places u blank).step;
  level = λ u. (slice_index_or p.plan.places u blank).level;
  stratum = λ u. (by_place step_scale p.stratum u).count;
  begin = λ u. (by_place second_scale p.begins u).count;
}

-- what the first line and the line of a place show
abbrev pub head_of : Shown → Head
head_of s = record { places = s.places; levels = s.levels; strata = s.strata; seconds = s.seconds }

abbrev pub row_of : Shown → ℕ → Row
row_of s v = record { place = v; step = s.step v; level = s.level v; stratum = s.stratum v; begin = s.begin v }

-- the number of why there is no page
abbrev pub list_number : ListFault → ℕ
list_number (TooLong e) = too_long_number
list_number (Plan f) = plan_number f

-- the text of a page, or of why there is none
abbrev pub text_of : Result Page ListFault → List ℕ
text_of (Ok p) = shown_text (shown_on p)
text_of (Err f) = refused_line (list_number f)
