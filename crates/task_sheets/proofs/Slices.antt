-- The numbers in a part of a sheet.
use Rattle.std.proofs.Common.{◌≡◌, ℕ, ◌+◌, ◌-◌, ◌/◌, ◌≤◌, min, List, length, ap, ◌∙◌, arith}
use Rattle.std.specs.List.{between}
use Rattle.std.proofs.lemmas.List.Edits.{length-between}
use Rattle.sheets.specs.Fields.{be16}
use Rattle.sheets.specs.Lists.{numbers_at}
pub use Rattle.sheets.proofs.Parts.{be16_between, numbers_between, numbers_part}
use Rattle.task_sheets.specs.Layout.{past}
use Rattle.task_sheets.specs.Content.{list_at}
use Rattle.task_sheets.specs.Parts.{part_numbers}

-- the numbers in a part that is a list of the sheet, its count included
pub part_numbers_lem : (xs : List ℕ) (i : ℕ) → past xs i ≤ length xs → part_numbers (between i (past xs i) xs) ≡ list_at xs i
part_numbers_lem xs i l =
    let p = between i (past xs i) xs in
    let z : i + 0 ≡ i = omega arith in
    let c : be16 p 0 ≡ be16 xs i = be16_between xs i (past xs i) 0 (omega arith) ∙ ap (be16 xs) z in
    let room : (length p - 2) / 2 ≡ be16 xs i = omega (arith, length-between xs i (past xs i) l) in
    let n : min (be16 p 0) ((length p - 2) / 2) ≡ be16 xs i = omega (arith, c, room) in
    ap (numbers_at p 2) n ∙ numbers_between xs i (past xs i) 2 (be16 xs i) (omega arith)
