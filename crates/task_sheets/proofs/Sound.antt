-- What a task sheet that passes is known to be.
use Rattle.std.proofs.Common.{◌≡◌, ℕ, zero, suc, ◌+◌, ◌<◌, ◌≤◌, not, eqb, leb, List, length, sym, refl, ap, ◌∙◌, arith, rules}
use Rattle.std.proofs.lemmas.Bool.{leb-true, eqb-false, not-true}
use Rattle.std.specs.List.{AllByRecursion}
use Rattle.sheets.specs.declared.fault.Refusal.TheVariants.{EmptyLevel, WrongTotal, Trailing}
use Rattle.sheets.specs.Verdicts.{Verdict, must, ◌then◌}
use Rattle.sheets.specs.Fields.{be16, be32, field, offset}
use Rattle.sheets.specs.Lists.{entry, entries, Ascending}
use Rattle.sheets.proofs.Verdicts.{Passes, then_left, then_right, must_true, up_to_each, field_room, offset_is}
use Rattle.sheets.proofs.Stands.{length_numbers_at}
use Rattle.sheets.proofs.Entries.{entries_room, entries_ascend}
use Rattle.task_sheets.specs.Layout.{header, past, start_at, goal_at, level_begins_at, steps_before, counted, placed, level, levels, task_verdict}
use Rattle.task_sheets.specs.Content.{list_at, levels_from, total, content, LawfulLevel, LawfulTask}

-- the verdict on level i, as it stands among all levels
abbrev pub level_in : List ℕ → ℕ → Verdict
level_in xs i = level xs (be16 xs 2) (be16 xs 6) (steps_before xs i) (level_begins_at xs i)

-- what is known of a list that begins at a byte
pub record Good (xs : List ℕ) (bound at : ℕ) : Type 0 where
  pub end : past xs at ≤ length xs
  pub ascending : Ascending bound (list_at xs at)

good : (xs : List ℕ) (bound at : ℕ) → Passes (field xs at 2) → Passes (entries xs bound (at + 2) (be16 xs at)) → Good xs bound at
good xs bound at f e = record {
  end = entries_room xs bound (at + 2) (be16 xs at) (field_room xs at 2 f) e;
  ascending = entries_ascend xs bound (at + 2) (be16 xs at) (λ j l. up_to_each (entry xs bound (at + 2)) (be16 xs at) j l e);
}

counted_good : (xs : List ℕ) (bound at : ℕ) → Passes (counted xs bound at) → Good xs bound at
counted_good xs bound at h = good xs bound at (then_left (field xs at 2) _ h) (then_right (field xs at 2) _ h)

-- what is known of a level
pub record GoodLevel (xs : List ℕ) (bound most before at : ℕ) : Type 0 where
  pub some : 0 < be16 xs at
  pub few : before + be16 xs at ≤ most
  pub list : Good xs bound at

level_good : (xs : List ℕ) (bound most before at : ℕ) → Passes (level xs bound most before at) → GoodLevel xs bound most before at
level_good xs bound most before at h =
    let es = entries xs bound (at + 2) (be16 xs at) in
    let h1 = then_right (field xs at 2) _ h in
    let h2 = then_right (must (not (eqb (be16 xs at) 0)) EmptyLevel at) (must (leb (before + be16 xs at) most) WrongTotal at then es) h1 in
    let e = must_true (not (eqb (be16 xs at) 0)) EmptyLevel at (then_left (must (not (eqb (be16 xs at) 0)) EmptyLevel at) _ h1) in
    let ne = eqb-false (be16 xs at) 0 (not-true (eqb (be16 xs at) 0) e) in
    record {
      some = omega (arith, ne);
      few = leb-true (before + be16 xs at) most (must_true (leb (before + be16 xs at) most) WrongTotal at (then_left (must (leb (before + be16 xs at) most) WrongTotal at) es h2));
      list = good xs bound at (then_left (field xs at 2) _ h) (then_right (must (leb (before + be16 xs at) most) WrongTotal at) es h2);
    }

levels_few : (xs : List ℕ) (n : ℕ) → Passes (levels xs n) → steps_before xs n ≤ be16 xs 6
levels_few xs zero h = omega arith
levels_few xs (suc n) h = (level_good xs (be16 xs 2) (be16 xs 6) (steps_before xs n) (level_begins_at xs n) (then_right (levels xs n) (level_in xs n) h)).few

levels_end : (xs : List ℕ) (n : ℕ) → level_begins_at xs 0 ≤ length xs → Passes (levels xs n) → level_begins_at xs n ≤ length xs
levels_end xs zero l h = l
levels_end xs (suc n) l h = (level_good xs (be16 xs 2) (be16 xs 6) (steps_before xs n) (level_begins_at xs n) (then_right (levels xs n) (level_in xs n) h)).list.end

pub record GoodHeader (xs : List ℕ) : Type 0 where
  pub room : 20 ≤ length xs
  pub few_facts : be16 xs 0 ≤ 1024
  pub few_steps : be16 xs 2 ≤ 512
  pub few_levels : be16 xs 4 ≤ 256
  pub few_in_all : be16 xs 6 ≤ 256

header_good : (xs : List ℕ) → Passes (header xs) → GoodHeader xs
header_good xs h = record { room = search rules; few_facts = search rules; few_steps = search rules; few_levels = search rules; few_in_all = search rules }

-- what is known of a sheet
pub record GoodSheet (xs : List ℕ) : Type 0 where
  pub head : GoodHeader xs
  pub start_place : be32 xs 8 ≡ start_at
  pub start_list : Good xs (be16 xs 0) start_at
  pub goal_place : be32 xs 12 ≡ goal_at xs
  pub goal_list : Good xs (be16 xs 0) (goal_at xs)
  pub plan_place : be32 xs 16 ≡ level_begins_at xs 0
  pub each : (i : ℕ) → i < be16 xs 4 → GoodLevel xs (be16 xs 2) (be16 xs 6) (steps_before xs i) (level_begins_at xs i)
  pub total_is : steps_before xs (be16 xs 4) ≡ be16 xs 6
  pub whole : level_begins_at xs (be16 xs 4) ≡ length xs

-- the sheet from its goal, its plan, its levels and its last level on
abbrev from_end : List ℕ → Verdict
from_end xs =
    must (leb (be16 xs 6) (steps_before xs (be16 xs 4))) WrongTotal 6
    then must (leb (length xs) (level_begins_at xs (be16 xs 4))) Trailing (level_begins_at xs (be16 xs 4))

abbrev from_levels : List ℕ → Verdict
from_levels xs = levels xs (be16 xs 4) then from_end xs

abbrev from_plan : List ℕ → Verdict
from_plan xs = offset xs 16 (level_begins_at xs 0) then from_levels xs

abbrev from_goal : List ℕ → Verdict
from_goal xs = placed xs 12 (be16 xs 0) (goal_at xs) then from_plan xs

abbrev from_start : List ℕ → Verdict
from_start xs = placed xs 8 (be16 xs 0) start_at then from_goal xs

pub sheet_good : (xs : List ℕ) → Passes (task_verdict xs) → GoodSheet xs
sheet_good xs ok =
    let h0 = then_right (header xs) (from_start xs) ok in
    let start = then_left (placed xs 8 (be16 xs 0) start_at) (from_goal xs) h0 in
    let h1 = then_right (placed xs 8 (be16 xs 0) start_at) (from_goal xs) h0 in
    let goal = then_left (placed xs 12 (be16 xs 0) (goal_at xs)) (from_plan xs) h1 in
    let h2 = then_right (placed xs 12 (be16 xs 0) (goal_at xs)) (from_plan xs) h1 in
    let h3 = then_right (offset xs 16 (level_begins_at xs 0)) (from_levels xs) h2 in
    let lev = then_left (levels xs (be16 xs 4)) (from_end xs) h3 in
    let h4 = then_right (levels xs (be16 xs 4)) (from_end xs) h3 in
    let t = must (leb (be16 xs 6) (steps_before xs (be16 xs 4))) WrongTotal 6 in
    let e = must (leb (length xs) (level_begins_at xs (be16 xs 4))) Trailing (level_begins_at xs (be16 xs 4)) in
    let goal_list = counted_good xs (be16 xs 0) (goal_at xs) (then_right (offset xs 12 (goal_at xs)) (counted xs (be16 xs 0) (goal_at xs)) goal) in
    let few = levels_few xs (be16 xs 4) lev in
    let many = leb-true (be16 xs 6) (steps_before xs (be16 xs 4)) (must_true (leb (be16 xs 6) (steps_before xs (be16 xs 4))) WrongTotal 6 (then_left t e h4)) in
    let low = levels_end xs (be16 xs 4) goal_list.end lev in
    let high = leb-true (length xs) (level_begins_at xs (be16 xs 4)) (must_true (leb (length xs) (level_begins_at xs (be16 xs 4))) Trailing (level_begins_at xs (be16 xs 4)) (then_right t e h4)) in
    record {
      head = header_good xs (then_left (header xs) (from_start xs) ok);
      start_place = offset_is xs 8 start_at (then_left (offset xs 8 start_at) (counted xs (be16 xs 0) start_at) start);
      start_list = counted_good xs (be16 xs 0) start_at (then_right (offset xs 8 start_at) (counted xs (be16 xs 0) start_at) start);
      goal_place = offset_is xs 12 (goal_at xs) (then_left (offset xs 12 (goal_at xs)) (counted xs (be16 xs 0) (goal_at xs)) goal);
      goal_list = goal_list;
      plan_place = offset_is xs 16 (level_begins_at xs 0) (then_left (offset xs 16 (level_begins_at xs 0)) (from_levels xs) h2);
      each = λ i l. level_good xs (be16 xs 2) (be16 xs 6) (steps_before xs i) (level_begins_at xs i) (up_to_each (level_in xs) (be16 xs 4) i l lev);
      total_is = omega (arith, few, many);
      whole = omega (arith, low, high);
    }

-- how many levels are said, and how many steps they have
pub length_levels_from : (xs : List ℕ) (at n : ℕ) → length (levels_from xs at n) ≡ n
length_levels_from xs at zero = refl
length_levels_from xs at (suc n) = ap suc (length_levels_from xs (past xs at) n)

pub total_levels_from : (xs : List ℕ) (i n : ℕ) → steps_before xs i + total (levels_from xs (level_begins_at xs i) n) ≡ steps_before xs (i + n)
total_levels_from xs i zero = let z : i + 0 ≡ i = omega arith in let y : steps_before xs i + 0 ≡ steps_before xs i = omega arith in y ∙ sym (ap (steps_before xs) z)
total_levels_from xs i (suc n) =
    let z : suc i + n ≡ i + suc n = omega arith in
    let h = total_levels_from xs (suc i) n in
    let k = length_numbers_at xs (level_begins_at xs i + 2) (be16 xs (level_begins_at xs i)) in
    let e : steps_before xs i + (length (list_at xs (level_begins_at xs i)) + total (levels_from xs (level_begins_at xs (suc i)) n)) ≡ steps_before xs (suc i) + total (levels_from xs (level_begins_at xs (suc i)) n) = omega (arith, k) in
    e ∙ h ∙ ap (steps_before xs) z

module _ (xs : List ℕ) (g : GoodSheet xs) where
  lawful_levels : (i n : ℕ) → i + n ≡ be16 xs 4 → AllByRecursion (LawfulLevel (be16 xs 2)) (levels_from xs (level_begins_at xs i) n)
  lawful_levels i zero e = tt
  lawful_levels i (suc n) e =
      let l = g.each i (omega arith) in
      let k = length_numbers_at xs (level_begins_at xs i + 2) (be16 xs (level_begins_at xs i)) in
      (record { some = omega (arith, k, l.some); ascending = l.list.ascending }, lawful_levels (suc i) n (omega arith))

  pub total_said : total (levels_from xs (level_begins_at xs 0) (be16 xs 4)) ≡ be16 xs 6
  total_said =
      let h = total_levels_from xs 0 (be16 xs 4) in
      let z : 0 + be16 xs 4 ≡ be16 xs 4 = omega arith in
      let y : total (levels_from xs (level_begins_at xs 0) (be16 xs 4)) ≡ 0 + total (levels_from xs (level_begins_at xs 0) (be16 xs 4)) = omega arith in
      y ∙ h ∙ ap (steps_before xs) z ∙ g.total_is

  -- what a sheet that passes says is lawful
  pub lawful_content : LawfulTask (content xs)
  lawful_content = record {
    few_facts = g.head.few_facts;
    few_steps = g.head.few_steps;
    few_levels = omega (arith, length_levels_from xs (level_begins_at xs 0) (be16 xs 4), g.head.few_levels);
    few_in_all = omega (arith, total_said, g.head.few_in_all);
    start = g.start_list.ascending;
    goal = g.goal_list.ascending;
    each = lawful_levels 0 (be16 xs 4) (omega arith);
  }
