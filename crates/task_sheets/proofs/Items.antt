-- The parts of a task sheet that passes.
use Rattle.std.proofs.Common.{◌≡◌, ℕ, zero, suc, ◌+◌, ◌-◌, ◌<◌, ◌≤◌, true, false, ltb, leb, ◌⊎◌, List, [], length, Option, None, Some, sym, refl, ap, ◌∙◌, subst, inl, inr, arith}
use denote.Ref.{Bor}
use Rattle.std.specs.List.{between}
use Rattle.std.specs.Option.{ForSome, option_map_or}
use Rattle.std.proofs.lemmas.Bool.{lt-ltb, le-ltb, le-leb, lt-leb, and_from, and_left, and_right}
use Rattle.std.proofs.lemmas.List.{get_or_past}
use Rattle.sheets.specs.Fields.{be16}
use Rattle.sheets.proofs.Verdicts.{Passes}
use Rattle.task_sheets.specs.declared.task_sheet.TaskSheet.{TaskSheet}
use Rattle.task_sheets.specs.declared.item.Part.TheVariants.{Level}
use Rattle.task_sheets.specs.Layout.{past, goal_at, level_begins_at, task_verdict}
use Rattle.task_sheets.specs.Content.{list_at, levels_from, content, no_task, encode, LawfulTask}
use Rattle.task_sheets.specs.Parts.{has, list_of, part_numbers}
use Rattle.task_sheets.specs.Opened.{bytes_of, task_of}
use Rattle.task_sheets.proofs.Sound.{GoodSheet, sheet_good, lawful_content, length_levels_from}
use Rattle.task_sheets.proofs.Laws.{get_or_levels_from}
use Rattle.task_sheets.proofs.Slices.{part_numbers_lem}

-- a part that is the list at a byte
pub part_said : (xs bs : List ℕ) (at : ℕ) → past xs at ≤ length xs → bs ≡ between at (past xs at) xs → part_numbers bs ≡ list_at xs at
part_said xs bs at l e = ap part_numbers e ∙ part_numbers_lem xs at l

-- the bytes from where the goal begins
pub goal_lies : (xs bs : List ℕ) (at : ℕ) → at ≡ goal_at xs → bs ≡ between at (past xs at) xs → bs ≡ between (goal_at xs) (level_begins_at xs 0) xs
goal_lies xs bs at e h = h ∙ ap (λ v. between v (past xs v) xs) e

module _ (xs : List ℕ) (g : GoodSheet xs) where
  pub level_end : (i : ℕ) → i < be16 xs 4 → past xs (level_begins_at xs i) ≤ length xs
  level_end i l = (g.each i l).list.end

  pub level_ends : (i at : ℕ) → at ≡ level_begins_at xs i → i < be16 xs 4 → past xs at ≤ length xs
  level_ends i at e l = subst (λ v. past xs v ≤ length xs) (sym e) (level_end i l)

  pub level_list : (n : ℕ) → 0 < n → n ≤ be16 xs 4 → list_of (content xs) (Level n) ≡ list_at xs (level_begins_at xs (n - 1))
  level_list zero l k = absurd (omega arith)
  level_list (suc i) l k =
      let z : 0 + i ≡ suc i - 1 = omega arith in
      get_or_levels_from xs 0 (be16 xs 4) i (omega arith) ∙ ap (λ v. list_at xs (level_begins_at xs v)) z

  no_list : (n : ℕ) → (n ≡ 0) ⊎ (be16 xs 4 < n) → list_of (content xs) (Level n) ≡ []
  no_list zero h = refl
  no_list (suc i) (inl e) = absurd (omega arith)
  no_list (suc i) (inr l) = get_or_past (levels_from xs (level_begins_at xs 0) (be16 xs 4)) i [] (omega (arith, length_levels_from xs (level_begins_at xs 0) (be16 xs 4)))

  no_such : (n : ℕ) → (n ≡ 0) ⊎ (be16 xs 4 < n) → has true (be16 xs 4) (Level n) ≡ false
  no_such n (inl e) = and_left (ltb 0 n) (leb n (be16 xs 4)) (le-ltb 0 n (omega arith))
  no_such n (inr l) = and_right (ltb 0 n) (leb n (be16 xs 4)) (lt-leb n (be16 xs 4) l)

  -- a level that is not there
  pub no_level : (n : ℕ) → (n ≡ 0) ⊎ (be16 xs 4 < n) → (has true (be16 xs 4) (Level n) ≡ false) × (◌≡◌ {A = List ℕ} [] (list_of (content xs) (Level n)))
  no_level n h = (no_such n h, sym (no_list n h))

  pub such_level : (n : ℕ) → 0 < n → n ≤ be16 xs 4 → has true (be16 xs 4) (Level n) ≡ true
  such_level n l k = and_from (ltb 0 n) (leb n (be16 xs 4)) (lt-ltb 0 n l) (le-leb n (be16 xs 4) k)

  -- the bytes from where a level begins
  pub level_lies : (bs : List ℕ) (n at : ℕ) → 0 < n → at ≡ level_begins_at xs (n - 1) → bs ≡ between at (past xs at) xs → bs ≡ between (level_begins_at xs (n - 1)) (level_begins_at xs n) xs
  level_lies bs n at l e h =
      let z : suc (n - 1) ≡ n = omega arith in
      h ∙ ap (λ v. between v (past xs v) xs) e ∙ ap (λ v. between (level_begins_at xs (n - 1)) v xs) (ap (level_begins_at xs) z)

-- the bytes that a sheet reads, opened or not, are a sheet, and say a lawful task
passes_read : (o : Option (Bor (List ℕ))) → ForSome o (λ bytes. Passes (task_verdict bytes.now)) → Passes (task_verdict (option_map_or (λ bytes. bytes.now) o (encode no_task)))
passes_read None h = refl
passes_read (Some bytes) h = h bytes refl

pub sheet_passes : (s : TaskSheet) → Passes (task_verdict (bytes_of s))
sheet_passes s = passes_read s.opened s.passes

pub good_sheet : (s : TaskSheet) → GoodSheet (bytes_of s)
good_sheet s = sheet_good (bytes_of s) (sheet_passes s)

pub sheet_lawful : (s : TaskSheet) → LawfulTask (task_of s)
sheet_lawful s = lawful_content (bytes_of s) (good_sheet s)

-- a sheet that was opened
pub reads : (s : TaskSheet) (b : Bor (List ℕ)) → s.opened ≡ Some b → bytes_of s ≡ b.now
reads s b e = ap (λ o. option_map_or (λ bytes. bytes.now) o (encode no_task)) e

pub good_opened : (s : TaskSheet) (b : Bor (List ℕ)) → s.opened ≡ Some b → GoodSheet b.now
good_opened s b e = sheet_good b.now (s.passes b e)

-- a sheet that is not opened says the task of no facts, steps and levels
pub unopened_says : (s : TaskSheet) → s.opened ≡ None → task_of s ≡ no_task
unopened_says s e = ap (λ o. content (option_map_or (λ bytes. bytes.now) o (encode no_task))) e
