-- Which bytes open, and what they say.
use Rattle.std.proofs.Common.{◌≡◌, ℕ, zero, suc, ◌+◌, ◌-◌, ◌*◌, ◌<◌, ◌≤◌, true, leb, List, [], ◌∷◌, length, get_or, is_ok, Ok, Err, Result, sym, refl, ap, ◌∙◌, arith}
use Rattle.std.specs.List.{between}
use Rattle.std.specs.Result.{MatchResult}
use Rattle.std.proofs.lemmas.Bool.{both_ways, and_parts, and_from, leb-true, le-leb}
use Rattle.sheets.specs.declared.fault.Refused.{Refused}
use Rattle.sheets.specs.declared.fault.Sheet.TheVariants.{Task as TaskOn}
use Rattle.sheets.specs.declared.fault.SheetFault.{SheetFault}
use Rattle.sheets.specs.Verdicts.{verdict_on}
use Rattle.sheets.specs.Fields.{be16}
use Rattle.sheets.specs.Lists.{numbers_at}
use Rattle.sheets.proofs.Verdicts.{Passes, passes_fine}
use Rattle.sheets.proofs.Stands.{Bytes}
use Rattle.task_sheets.specs.Layout.{past, fits, level_begins_at, task_verdict}
use Rattle.task_sheets.specs.Content.{encode, content, list_at, levels_from}
use Rattle.task_sheets.specs.Parts.{numbers_in}
use Rattle.task_sheets.specs.Opened.{SaysOne, SaysNone, OneSheetEach}
use Rattle.task_sheets.proofs.Sound.{GoodSheet, sheet_good, lawful_content}
use Rattle.task_sheets.proofs.Codes.{encoded}
use Rattle.task_sheets.proofs.Decodes.{content_encode, encode_passes}
use Rattle.task_sheets.proofs.Slices.{numbers_part}

pub says_one : (xs : List ℕ) → Bytes xs → Passes (task_verdict xs) → SaysOne xs
says_one xs b ok = record {
  says = record { lawful = lawful_content xs (sheet_good xs ok); encoded = encoded xs b (sheet_good xs ok) };
  only = λ t s. sym (content_encode t s.lawful) ∙ sym (ap content s.encoded);
}

pub says_none : (xs : List ℕ) (e : Refused) → task_verdict xs ≡ Err e → SaysNone xs
says_none xs e h t s = both_ways (is_ok (task_verdict xs)) (ap is_ok h) (ap (λ v. is_ok (task_verdict v)) s.encoded ∙ encode_passes t s.lawful)

-- what the answer of opening says of the bytes
pub said_by : (xs : List ℕ) → Bytes xs → (r : Result (Unit {0}) SheetFault) → r ≡ verdict_on TaskOn (task_verdict xs) → MatchResult r (λ _. SaysOne xs) (λ _. SaysNone xs)
said_by xs b r e =
    rw e (elim (task_verdict xs) as (λ v. task_verdict xs ≡ v → MatchResult (verdict_on TaskOn v) (λ _. SaysOne xs) (λ _. SaysNone xs)) [
      | Ok u ↦ λ h. says_one xs b (ap is_ok h)
      | Err f ↦ λ h. says_none xs f h
    ] refl)

pub one_sheet_each : OneSheetEach
one_sheet_each = record {
  opens = λ t w. passes_fine (task_verdict (encode t)) (encode_passes t w);
  said = content_encode;
  same = λ xs ys b d p q e. encoded xs b (sheet_good xs (ap is_ok p)) ∙ ap encode e ∙ sym (encoded ys d (sheet_good ys (ap is_ok q)));
}

-- the levels of a sheet stand in it
fits_from : (xs : List ℕ) (g : GoodSheet xs) (i n : ℕ) → i + n ≡ be16 xs 4 → fits xs (level_begins_at xs i) n ≡ true
fits_from xs g i zero e = refl
fits_from xs g i (suc n) e =
    and_from (leb (past xs (level_begins_at xs i)) (length xs)) (fits xs (past xs (level_begins_at xs i)) n)
    (le-leb (past xs (level_begins_at xs i)) (length xs) (g.each i (omega arith)).list.end) (fits_from xs g (suc i) n (omega arith))

pub levels_fit : (xs : List ℕ) → GoodSheet xs → fits xs (level_begins_at xs 0) (be16 xs 4) ≡ true
levels_fit xs g = fits_from xs g 0 (be16 xs 4) (omega arith)

-- the next of the lists that stand in a sheet
pub next_fits : (xs : List ℕ) (at n : ℕ) → 0 < n → fits xs at n ≡ true → past xs at ≤ length xs
next_fits xs at zero l h = absurd (omega arith)
next_fits xs at (suc n) l h = leb-true (past xs at) (length xs) (and_parts (leb (past xs at) (length xs)) (fits xs (past xs at) n) h).0

module _ (xs : List ℕ) (at n r : ℕ) (l : 0 < n) (e : r ≡ be16 xs at) (h : fits xs at n ≡ true) where
  pub turn_is : (ps : List ℕ) → ps ≡ numbers_in (between (at + 2) (at + 2 + 2 * r) xs) → levels_from xs at n ≡ ps ∷ levels_from xs (at + 2 + 2 * r) (n - 1)
  turn_is ps p =
      let z : n ≡ suc (n - 1) = omega arith in
      let room = next_fits xs at n l h in
      let q : ps ≡ list_at xs at = p ∙ numbers_part xs (at + 2) r (at + 2 + 2 * r) refl (omega (arith, e)) ∙ ap (numbers_at xs (at + 2)) e in
      ap (levels_from xs at) z ∙ ap (λ v. v ∷ levels_from xs (past xs at) (n - 1)) (sym q) ∙ ap (λ v. ps ∷ levels_from xs (at + 2 + 2 * v) (n - 1)) (sym e)

-- level i of a sheet
pub get_or_levels_from : (xs : List ℕ) (i n j : ℕ) → j < n → get_or (levels_from xs (level_begins_at xs i) n) j [] ≡ list_at xs (level_begins_at xs (i + j))
get_or_levels_from xs i zero j l = absurd (omega arith)
get_or_levels_from xs i (suc n) zero l = let z : i ≡ i + 0 = omega arith in ap (λ v. list_at xs (level_begins_at xs v)) z
get_or_levels_from xs i (suc n) (suc j) l =
    let z : suc i + j ≡ i + suc j = omega arith in get_or_levels_from xs (suc i) n j (omega arith) ∙ ap (λ v. list_at xs (level_begins_at xs v)) z
