-- The parts of a task sheet that are handed out: where they lie, and which numbers they hold.
use Rattle.std.specs.Prelude.{◌≡◌, ℕ, zero, suc, ◌-◌, ◌/◌, min, Bool, true, false, ◌&&◌, List, [], length, Some, None, Option, nat_le, nat_lt, slice_index_or}
use Rattle.std.specs.List.{between}
use Rattle.sheets.specs.Fields.{be16}
use Rattle.sheets.specs.Lists.{numbers_at}
pub use Rattle.sheets.specs.Numbers.{numbers_in, numbers_of, Picked}
use Rattle.task_sheets.specs.declared.item.Part.{Part}
use Rattle.task_sheets.specs.declared.item.Part.TheVariants.{Start as StartPart, Goal as GoalPart, Level as LevelPart}
use Rattle.task_sheets.specs.declared.item.Item.{Item}
use Rattle.task_sheets.specs.declared.item.Item.TheVariants.{Start, Goal, Level}
use Rattle.task_sheets.specs.Layout.{start_at, goal_at, level_begins_at}
use Rattle.task_sheets.specs.Content.{Task}

-- the bytes that an item holds
abbrev pub item_bytes : Item → List ℕ
item_bytes (Start s) = s.now
item_bytes (Goal s) = s.now
item_bytes (Level s) = s.now

-- the numbers in a part that begins with its count: as many as it counts, and no more than it has room for
abbrev pub part_numbers : List ℕ → List ℕ
part_numbers bs = numbers_at bs 2 (min (be16 bs 0) ((length bs - 2) / 2))

-- the numbers of what was handed out, and none where nothing was
abbrev pub handed_numbers : Option Item → List ℕ
handed_numbers None = []
handed_numbers (Some i) = part_numbers (item_bytes i)

-- the list of a task that a part is; levels are numbered from 1
abbrev pub list_of : Task → Part → List ℕ
list_of t StartPart = t.start
list_of t GoalPart = t.goal
list_of t (LevelPart zero) = []
list_of t (LevelPart (suc i)) = slice_index_or t.levels i []

-- whether a sheet, opened or not, of so many levels has a part
abbrev pub has : Bool → ℕ → Part → Bool
has opened most StartPart = opened
has opened most GoalPart = opened
has opened most (LevelPart n) = opened && (nat_lt 0 n && nat_le n most)

-- the item that a part of a sheet is: its case, and from which byte to which it lies in the sheet
abbrev pub Lies : List ℕ → Part → Item → Type 0
Lies xs StartPart (Start s) = s.now ≡ between start_at (goal_at xs) xs
Lies xs StartPart (Goal s) = ⊥
Lies xs StartPart (Level s) = ⊥
Lies xs GoalPart (Start s) = ⊥
Lies xs GoalPart (Goal s) = s.now ≡ between (goal_at xs) (level_begins_at xs 0) xs
Lies xs GoalPart (Level s) = ⊥
Lies xs (LevelPart n) (Start s) = ⊥
Lies xs (LevelPart n) (Goal s) = ⊥
Lies xs (LevelPart n) (Level s) = s.now ≡ between (level_begins_at xs (n - 1)) (level_begins_at xs n) xs

-- what is handed out of a sheet on asking for a part: that item, and nothing where the sheet has no such part
abbrev pub Handed : Bool → List ℕ → Part → Option Item → Type 0
Handed opened xs which None = has opened (be16 xs 4) which ≡ false
Handed opened xs which (Some i) = (has opened (be16 xs 4) which ≡ true) × Lies xs which i
