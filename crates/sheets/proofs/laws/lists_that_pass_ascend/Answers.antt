use Rattle.std.proofs.Common.{length, sym, is_ok, ap, subst, arith}
use Rattle.std.proofs.ByRecursion.{has_get_or}
use Rattle.std.specs.List.{ContainsAt as Has}
use Rattle.sheets.specs.Fields.{twos}
use Rattle.sheets.specs.Lists.{entry, numbers_at}
use Rattle.sheets.proofs.Verdicts.{passes_fine, up_to_each}
use Rattle.sheets.proofs.Stands.{stands_whole, length_numbers_at, get_or_numbers_at}
use Rattle.sheets.proofs.Entries.{entries_ascend, entries_rise, entries_pass, numbers_ascend, numbers_rise, among_says, says_among, among_has}
use Rattle.sheets.proofs.laws.lists_that_pass_ascend.Goals as goal

pub returns : goal.returns
returns c = record {
  ascends = λ xs bound at n e. entries_ascend xs bound at n (λ j l. up_to_each (entry xs bound at) n j l (ap is_ok e));
  rises = λ xs bound at n e. entries_rise xs bound at n (λ j l. up_to_each (entry xs bound at) n j l (ap is_ok e));
  passes = λ bound ps w. passes_fine _ (entries_pass (twos ps) bound 0 ps (length (twos ps)) (stands_whole (twos ps)) w);
  has = λ xs at n p. (
    λ e. let r = among_says xs at n p e in subst (Has (numbers_at xs at n)) r.1.1 (has_get_or (numbers_at xs at n) r.0 0 (omega (arith, r.1.0, length_numbers_at xs at n))),
    λ h. says_among xs at n p h.0 (omega (arith, h.1, length_numbers_at xs at n)) (h.2 0),
  );
  picked = λ xs at n j l. (omega (arith, length_numbers_at xs at n), sym (get_or_numbers_at xs at n j l));
  none_past = λ xs at n j l. omega (arith, length_numbers_at xs at n);
  rising_ascends = numbers_ascend;
  ascending_rises = numbers_rise;
  same = among_has;
}
