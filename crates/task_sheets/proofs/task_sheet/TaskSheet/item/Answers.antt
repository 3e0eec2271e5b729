use Rattle.std.proofs.Common.{◌≡◌, ◌-◌, ◌<◌, ◌≤◌, ◌⊎◌, is_some, sym, ap, ◌∙◌, inl, inr, arith}
use Rattle.std.specs.List.{between}
use Rattle.sheets.specs.Fields.{be16}
use Rattle.task_sheets.specs.Layout.{past, start_at, goal_at, level_begins_at}
use Rattle.task_sheets.specs.Opened.{bytes_of}
use Rattle.task_sheets.proofs.Sound.{length_levels_from}
use Rattle.task_sheets.proofs.Items.{part_said, goal_lies, level_end, level_ends, level_list, no_level, such_level, level_lies, good_sheet, good_opened, reads}
use Rattle.task_sheets.proofs.task_sheet.TaskSheet.item.Goals as goal

pub part-requires-in-Goal : goal.part-requires-in-Goal
part-requires-in-Goal c =
    let g = good_opened c.args.self.now c.in_ok-bytes.bytes c.in_ok-bytes.was in
    rw (c.get.ensures, g.goal_place) g.goal_list.end

pub level_at-requires : goal.level_at-requires
level_at-requires c =
    let xs = bytes_of c.args.self.now in
    omega (arith, c.levels-most.ensures.says, length_levels_from xs (level_begins_at xs 0) (be16 xs 4))

pub part-requires-in-Level : goal.part-requires-in-Level
part-requires-in-Level c =
    let s = c.args.self.now in
    let xs = bytes_of s in
    rw (← reads s c.in_ok-bytes.bytes c.in_ok-bytes.was)
    (level_ends xs (good_sheet s) _ _ c.level_at.ensures (omega (arith, c.levels-most.ensures.says, length_levels_from xs (level_begins_at xs 0) (be16 xs 4))))

pub returns-then-n-eq0 : goal.returns-then-n-eq0
returns-then-n-eq0 c =
    let s = c.args.self.now in
    let xs = bytes_of s in
    let len = c.levels-most.ensures.says ∙ length_levels_from xs (level_begins_at xs 0) (be16 xs 4) in
    let out : (c.in-Level.n ≡ 0) ⊎ (be16 xs 4 < c.in-Level.n) = elim c.then-n-eq0.either [ inl e ↦ inl e | inr h ↦ inr (omega (arith, h.1, len)) ] in
    let no_such = no_level xs (good_sheet s) c.in-Level.n out in
    rw (c.in-Level.is, ap is_some (c.in_ok-bytes.was)) (record { lies = no_such.0; says = no_such.1 })

pub returns-in-Start-clause-says : goal.returns-in-Start-clause-says
returns-in-Start-clause-says c =
    let s = c.args.self.now in
    let e = c.part.ensures ∙ ap (λ xs. between start_at (past xs start_at) xs) (sym (reads s c.in_ok-bytes.bytes c.in_ok-bytes.was)) in
    rw c.in-Start.is (part_said (bytes_of s) c.part.result.now start_at (good_sheet s).start_list.end e)

pub returns-in-Goal-clause-says : goal.returns-in-Goal-clause-says
returns-in-Goal-clause-says c =
    let s = c.args.self.now in
    let xs = bytes_of s in
    let g = good_opened s c.in_ok-bytes.bytes c.in_ok-bytes.was in
    let e = reads s c.in_ok-bytes.bytes c.in_ok-bytes.was in
    rw (c.in-Goal.is, e)
    (part_said c.in_ok-bytes.bytes.now c.part-in-Goal.result.now (goal_at c.in_ok-bytes.bytes.now) g.goal_list.end
    (goal_lies c.in_ok-bytes.bytes.now c.part-in-Goal.result.now c.get.result (c.get.ensures ∙ g.goal_place) c.part-in-Goal.ensures))

pub returns-else-n-most : goal.returns-else-n-most
returns-else-n-most c =
    let s = c.args.self.now in
    let xs = bytes_of s in
    let g = good_sheet s in
    let n = c.in-Level.n in
    let bs = c.part-in-Level.result.now in
    let some : 0 < n = omega arith in
    let few : n ≤ be16 xs 4 = omega (arith, c.levels-most.ensures.says, length_levels_from xs (level_begins_at xs 0) (be16 xs 4)) in
    let read = c.part-in-Level.ensures ∙ ap (λ ys. between c.level_at.result (past ys c.level_at.result) ys) (sym (reads s c.in_ok-bytes.bytes c.in_ok-bytes.was)) in
    let e = read ∙ ap (λ v. between v (past xs v) xs) c.level_at.ensures in
    rw (c.in-Level.is, ap is_some c.in_ok-bytes.was)
    (record {
      lies = (such_level xs g n some few, level_lies xs g bs n c.level_at.result some c.level_at.ensures read);
      says = part_said xs bs (level_begins_at xs (n - 1)) (level_end xs g (n - 1) (omega arith)) e ∙ sym (level_list xs g n some few);
    })
