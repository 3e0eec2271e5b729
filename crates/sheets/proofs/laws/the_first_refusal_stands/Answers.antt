use Rattle.std.proofs.Common.{is_ok, ap}
use Rattle.sheets.proofs.Verdicts.{passes_fine, up_to_pass, up_to_stops}
use Rattle.sheets.proofs.laws.the_first_refusal_stands.Goals as goal

pub returns : goal.returns
returns c = record {
  each = λ v n h. passes_fine _ (up_to_pass v n (λ i l. ap is_ok (h i l)));
  first = λ v n i r l h e. up_to_stops v i n r l (passes_fine _ (up_to_pass v i (λ j k. ap is_ok (h j k)))) e;
}
