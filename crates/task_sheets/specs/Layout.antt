-- A task sheet, read front to back: the verdict on it.
use Rattle.std.specs.Prelude.{ℕ, zero, suc, ◌+◌, ◌*◌, Bool, true, not, ◌&&◌, List, length, ◌==◌, nat_le}
use Rattle.sheets.specs.declared.fault.Refusal.TheVariants.{EmptyLevel, WrongTotal, Trailing}
use Rattle.sheets.specs.Verdicts.{Verdict, must, ◌then◌, up_to}
use Rattle.sheets.specs.Fields.{be16, field, limit, offset}
use Rattle.sheets.specs.Lists.{entries}

-- the header: how many facts, steps, levels, and steps in all levels; where the start list, the goal list and the plan begin
abbrev pub header : List ℕ → Verdict
header xs =
    field xs 0 2 then limit (be16 xs 0) 1024 0
    then field xs 2 2 then limit (be16 xs 2) 512 2
    then field xs 4 2 then limit (be16 xs 4) 256 4
    then field xs 6 2 then limit (be16 xs 6) 256 6
    then field xs 8 4
    then field xs 12 4
    then field xs 16 4

-- the byte behind the list that begins at a byte
abbrev pub past : List ℕ → ℕ → ℕ
past xs at = at + 2 + 2 * be16 xs at

-- n lists, one behind the other from a byte on, end inside the sheet
abbrev pub fits : List ℕ → ℕ → ℕ → Bool
fits xs at zero = true
fits xs at (suc n) = nat_le (past xs at) (length xs) && fits xs (past xs at) n

-- where the start list, the goal list and level i begin, the first level being level 0 here
abbrev pub start_at : ℕ
start_at = 20

abbrev pub goal_at : List ℕ → ℕ
goal_at xs = past xs start_at

abbrev pub level_begins_at : List ℕ → ℕ → ℕ
level_begins_at xs zero = past xs (goal_at xs)
level_begins_at xs (suc i) = past xs (level_begins_at xs i)

-- how many steps the first i levels have
abbrev pub steps_before : List ℕ → ℕ → ℕ
steps_before xs zero = 0
steps_before xs (suc i) = steps_before xs i + be16 xs (level_begins_at xs i)

-- a list of numbers below a bound, that begins at a byte: its count, then its entries
abbrev pub counted : List ℕ → ℕ → ℕ → Verdict
counted xs bound at = field xs at 2 then entries xs bound (at + 2) (be16 xs at)

-- a list and, before it is read, the offset in the field at w, that points to it
abbrev pub placed : List ℕ → ℕ → ℕ → ℕ → Verdict
placed xs w bound at = offset xs w at then counted xs bound at

-- a level that begins at a byte, after levels with so many steps: it has steps, and not too many
abbrev pub level : List ℕ → ℕ → ℕ → ℕ → ℕ → Verdict
level xs bound most before at =
    field xs at 2
    then must (not (be16 xs at == 0)) EmptyLevel at
    then must (nat_le (before + be16 xs at) most) WrongTotal at
    then entries xs bound (at + 2) (be16 xs at)

-- the first n levels
abbrev pub levels : List ℕ → ℕ → Verdict
levels xs n = up_to (λ i. level xs (be16 xs 2) (be16 xs 6) (steps_before xs i) (level_begins_at xs i)) n

-- the verdict on a whole task sheet
abbrev pub task_verdict : List ℕ → Verdict
task_verdict xs =
    header xs
    then placed xs 8 (be16 xs 0) start_at
    then placed xs 12 (be16 xs 0) (goal_at xs)
    then offset xs 16 (level_begins_at xs 0)
    then levels xs (be16 xs 4)
    then must (nat_le (be16 xs 6) (steps_before xs (be16 xs 4))) WrongTotal 6
    then must (nat_le (length xs) (level_begins_at xs (be16 xs 4))) Trailing (level_begins_at xs (be16 xs 4))
