-- Lists of a task sheet, handed out and copied with their counts.
use Rattle.std.proofs.Common.{◌≡◌, ℕ, zero, suc, ◌+◌, ◌-◌, ◌*◌, ◌/◌, ◌<◌, ◌≤◌, min, Bool, true, ◌&&◌, ltb, leb, List, [], ◌++◌, length, get_or, drop, sym, ap, ◌∙◌, inl, inr, arith}
use Rattle.std.specs.List.{between}
use Rattle.std.proofs.lemmas.List.Edits.{length-between}
use Rattle.std.proofs.ByRecursion.{All-get_or}
use Rattle.std.proofs.lemmas.List.{get_or_past}
use Rattle.std.proofs.lemmas.Bool.{and_parts, cases_lt, ltb-true, leb-true}
use Rattle.sheets.specs.Fields.{be16, two, twos}
use Rattle.sheets.specs.Lists.{numbers_at}
use Rattle.sheets.proofs.Stands.{Bytes, Stands, stands_join, stands_two, stands_numbers, whole_stands, length_numbers_at}
use Rattle.task_sheets.specs.declared.item.Part.{Part}
use Rattle.task_sheets.specs.declared.item.Part.TheVariants.{Start as StartPart, Goal as GoalPart, Level as LevelPart}
use Rattle.task_sheets.specs.declared.item.Item.{Item}
use Rattle.task_sheets.specs.declared.item.Item.TheVariants.{Start, Goal, Level}
use Rattle.task_sheets.specs.Layout.{past, start_at, goal_at, level_begins_at}
use Rattle.task_sheets.specs.Content.{Task, list_bytes, LawfulLevel, LawfulTask}
use Rattle.task_sheets.specs.Parts.{item_bytes, part_numbers, list_of, has, Lies}
use Rattle.task_sheets.proofs.Decodes.{ascending_few}
use Rattle.task_sheets.proofs.Sound.{GoodSheet}
use Rattle.task_sheets.proofs.Items.{level_end}
use Rattle.task_sheets.proofs.Slices.{be16_between}

-- as many numbers as the count says
pub length_part : (bs : List ℕ) → length bs ≡ 2 + 2 * be16 bs 0 → length (part_numbers bs) ≡ be16 bs 0
length_part bs w =
    let n : min (be16 bs 0) ((length bs - 2) / 2) ≡ be16 bs 0 = omega arith in
    length_numbers_at bs 2 (min (be16 bs 0) ((length bs - 2) / 2)) ∙ n

-- a list of a sheet is whole
list_whole : (xs bs : List ℕ) (at : ℕ) → past xs at ≤ length xs → bs ≡ between at (past xs at) xs → length bs ≡ 2 + 2 * be16 bs 0
list_whole xs bs at l e =
    let z : at + 0 ≡ at = omega arith in
    let c : be16 bs 0 ≡ be16 xs at = ap (λ ys. be16 ys 0) e ∙ be16_between xs at (past xs at) 0 (omega arith) ∙ ap (be16 xs) z in
    let n = ap length e ∙ length-between xs at (past xs at) l in
    omega (arith, c, n)

pub item_whole : (xs : List ℕ) (g : GoodSheet xs) (opened : Bool) (which : Part) (i : Item) → has opened (be16 xs 4) which ≡ true → Lies xs which i
    → length (item_bytes i) ≡ 2 + 2 * be16 (item_bytes i) 0
item_whole xs g opened StartPart (Start s) h e = list_whole xs s.now start_at g.start_list.end e
item_whole xs g opened StartPart (Goal s) h e = absurd e
item_whole xs g opened StartPart (Level s) h e = absurd e
item_whole xs g opened GoalPart (Start s) h e = absurd e
item_whole xs g opened GoalPart (Goal s) h e = list_whole xs s.now (goal_at xs) g.goal_list.end e
item_whole xs g opened GoalPart (Level s) h e = absurd e
item_whole xs g opened (LevelPart n) (Start s) h e = absurd e
item_whole xs g opened (LevelPart n) (Goal s) h e = absurd e
item_whole xs g opened (LevelPart n) (Level s) h e =
    let k = and_parts (ltb 0 n) (leb n (be16 xs 4)) (and_parts opened (ltb 0 n && leb n (be16 xs 4)) h).1 in
    let l : n - 1 < be16 xs 4 = omega (arith, ltb-true 0 n k.0, leb-true n (be16 xs 4) k.1) in
    let z : n ≡ suc (n - 1) = omega (arith, ltb-true 0 n k.0) in
    list_whole xs s.now (level_begins_at xs (n - 1)) (level_end xs g (n - 1) l) (e ∙ ap (λ v. between (level_begins_at xs (n - 1)) v xs) (ap (level_begins_at xs) z))

-- the bytes of a whole list are its count and its numbers
pub list_said : (bs : List ℕ) → Bytes bs → length bs ≡ 2 + 2 * be16 bs 0 → bs ≡ list_bytes (part_numbers bs)
list_said bs b w =
    let n : min (be16 bs 0) ((length bs - 2) / 2) ≡ be16 bs 0 = omega arith in
    let e : numbers_at bs 2 (be16 bs 0) ≡ part_numbers bs = ap (numbers_at bs 2) (sym n) in
    let z : 2 + 2 * be16 bs 0 ≡ length bs = sym w in
    let s : Stands bs 2 (twos (numbers_at bs 2 (be16 bs 0))) (length bs) =
    stands_numbers bs 2 (be16 bs 0) b (omega arith) ∙ ap (λ k. twos (numbers_at bs 2 (be16 bs 0)) ++ drop k bs) z in
    let j = stands_join bs 0 (two (be16 bs 0)) 2 (twos (numbers_at bs 2 (be16 bs 0))) (length bs) (stands_two bs 0 b (omega arith)) s in
    whole_stands bs (two (be16 bs 0) ++ twos (numbers_at bs 2 (be16 bs 0))) j
    ∙ ap (λ k. two k ++ twos (numbers_at bs 2 (be16 bs 0))) (sym (length_part bs w))
    ∙ ap (λ ps. two (length (part_numbers bs)) ++ twos ps) e

-- no list of a lawful task has more than 1,024 numbers
level_few : (t : Task) → LawfulTask t → (i : ℕ) → length (get_or t.levels i []) ≤ 1024
level_few t w i =
    elim (cases_lt i (length t.levels)) [
      | inl k ↦ omega (arith, ascending_few t.steps (get_or t.levels i []) (All-get_or (LawfulLevel t.steps) t.levels i [] k w.each).ascending, w.few_steps)
      | inr k ↦ omega (arith, ap length (get_or_past t.levels i [] k))
    ]

pub list_few : (t : Task) → LawfulTask t → (which : Part) → length (list_of t which) ≤ 1024
list_few t w StartPart = omega (arith, ascending_few t.facts t.start w.start, w.few_facts)
list_few t w GoalPart = omega (arith, ascending_few t.facts t.goal w.goal, w.few_facts)
list_few t w (LevelPart zero) = omega arith
list_few t w (LevelPart (suc i)) = level_few t w i
