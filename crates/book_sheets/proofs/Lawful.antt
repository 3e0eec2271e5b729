-- What a book sheet that passes says is lawful.
use Rattle.std.proofs.Common.{◌≡◌, ℕ, zero, suc, ◌+◌, ◌*◌, ◌<◌, ◌≤◌, not, List, length, get_or, refl, ap, ◌∙◌, arith, rules}
use Rattle.std.proofs.lemmas.Bool.{not-true, both_ways}
use Rattle.std.specs.List.{AllByRecursion}
use Rattle.sheets.specs.declared.fault.Refusal.TheVariants.{AddedToo}
use Rattle.sheets.specs.Verdicts.{up_to}
use Rattle.sheets.specs.Fields.{be16, be32}
use Rattle.sheets.specs.Lists.{entry, among, numbers_at}
use Rattle.sheets.proofs.Verdicts.{Passes, then_right, must_true, up_to_each}
use Rattle.sheets.proofs.Stands.{length_numbers_at, get_or_numbers_at}
use Rattle.sheets.proofs.Entries.{entries_ascend, says_among}
use Rattle.book_sheets.specs.Layout.{row, row_at, deleted, lists_at, need_count, add_count, delete_count, book_verdict}
use Rattle.book_sheets.specs.Content.{step_of, steps_from, content, LawfulList, LawfulStep, LawfulContent}
use Rattle.book_sheets.proofs.Known.{head_ok, known, deleted_entry}

pub length_steps_from : (xs : List ℕ) (a n : ℕ) → length (steps_from xs a n) ≡ n
length_steps_from xs a zero = refl
length_steps_from xs a (suc n) = ap suc (length_steps_from xs (suc a) n)

lawful_list : (xs : List ℕ) (f at n : ℕ) → n ≤ 250 → ((j : ℕ) → j < n → Passes (entry xs f at j)) → LawfulList f (numbers_at xs at n)
lawful_list xs f at n few h = record { few = omega (arith, length_numbers_at xs at n); ascending = entries_ascend xs f at n h }

-- the limits of a row
record Limits (xs : List ℕ) (r : ℕ) : Type 0 where
  pub seconds : be32 xs (r + 4) ≤ 1000000
  pub needs : get_or xs (r + 8) 0 ≤ 250
  pub adds : get_or xs (r + 9) 0 ≤ 250
  pub deletes : get_or xs (r + 10) 0 ≤ 250

limits : (xs : List ℕ) (r : ℕ) → Passes (row xs r) → Limits xs r
limits xs r h = record { seconds = search rules; needs = search rules; adds = search rules; deletes = search rules }

-- a delete is none of the adds
apart : (xs : List ℕ) (f adds m at n : ℕ) → Passes (up_to (deleted xs f adds m at) n)
    → (i j : ℕ) → i < length (numbers_at xs adds m) → j < length (numbers_at xs at n) → get_or (numbers_at xs adds m) i 0 ≡ get_or (numbers_at xs at n) j 0 → ⊥
apart xs f adds m at n h i j li lj e =
    let ki : i < m = omega (arith, length_numbers_at xs adds m) in
    let kj : j < n = omega (arith, length_numbers_at xs at n) in
    let q = be16 xs (at + 2 * j) in
    let out = not-true (among xs adds m q) (must_true (not (among xs adds m q)) AddedToo _ (then_right (entry xs f at j) _ (up_to_each (deleted xs f adds m at) n j kj h))) in
    both_ways (among xs adds m q) out (says_among xs adds m q i ki (e ∙ get_or_numbers_at xs at n j kj))

module _ (xs : List ℕ) (ok : Passes (book_verdict xs)) where
  head_limits : (be16 xs 0 ≤ 1024) × (be16 xs 2 ≤ 512)
  head_limits = let h = head_ok xs ok in search rules

  pub lawful_step : (a : ℕ) → a < be16 xs 2 → LawfulStep (be16 xs 0) (step_of xs a)
  lawful_step a l =
      let f = be16 xs 0 in
      let at = lists_at xs a in
      let N = need_count xs a in
      let M = add_count xs a in
      let D = delete_count xs a in
      let k = known xs ok a l in
      let lim = limits xs (row_at a) k.row_ok in
      record {
        needs = lawful_list xs f at N lim.needs (λ j g. up_to_each (entry xs f at) N j g k.lists.needs_ok);
        adds = lawful_list xs f (at + 2 * N) M lim.adds (λ j g. up_to_each (entry xs f (at + 2 * N)) M j g k.lists.adds_ok);
        deletes = lawful_list xs f (at + 2 * N + 2 * M) D lim.deletes (deleted_entry xs f (at + 2 * N) M (at + 2 * N + 2 * M) D k.lists.deletes_ok);
        apart = apart xs f (at + 2 * N) M (at + 2 * N + 2 * M) D k.lists.deletes_ok;
        short = lim.seconds;
      }

  lawful_steps : (a n : ℕ) → a + n ≡ be16 xs 2 → AllByRecursion (LawfulStep (be16 xs 0)) (steps_from xs a n)
  lawful_steps a zero e = tt
  lawful_steps a (suc n) e = (lawful_step a (omega arith), lawful_steps (suc a) n (omega arith))

  pub lawful_content : LawfulContent (content xs)
  lawful_content =
      let h = head_limits in
      let len = length_steps_from xs 0 (be16 xs 2) in
      record { few_facts = h.0; few_steps = omega (arith, len, h.1); each = lawful_steps 0 (be16 xs 2) (omega arith) }
