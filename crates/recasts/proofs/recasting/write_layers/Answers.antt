use Rattle.std.proofs.Common.{◌++◌, length, drop, sym, refl, ap, ◌∙◌, rules, arith}
use Rattle.std.proofs.lemmas.Result.{err_from_is_err_and}
use Rattle.sheets.proofs.Writers.{writes_on, writes_as, writes_front}
use Rattle.task_sheets.specs.Content.{list_bytes, encode}
use Rattle.task_sheets.specs.Opened.{task_of}
use Rattle.task_sheets.specs.Parts.{part_numbers}
use Rattle.task_sheets.proofs.Decodes.{length_list_bytes}
use Rattle.recasts.specs.Layers.{layered, levels_of}
use Rattle.recasts.proofs.Plans.{length_plan}
use Rattle.recasts.proofs.Sheets.{list_length, levels_length, length_layered, layered_parts, short_written}
use Rattle.recasts.proofs.recasting.write_layers.Goals as goal

pub returns-in_err-check_room : goal.returns-in_err-check_room
returns-in_err-check_room c =
    let t = task_of c.args.task.now in
    let l = c.args.layers.now in
    let s = list_length c.list_of-start.result.now t.start c.list_of-start.ensures.whole c.list_of-start.ensures.says in
    let g = list_length c.list_of-goal.result.now t.goal c.list_of-goal.ensures.whole c.list_of-goal.ensures.says in
    let n = length_layered t l _ _ c.total.result c.of-header.result c.of-header.ensures s g c.total.ensures.is in
    let p = err_from_is_err_and c.from_residual.result c.from_residual.ensures.1 in
    rw (p.1, p.2) (short_written (layered t l) c.args.out.now _ _ (c.sheet_length-needed.ensures ∙ n) c.in_err-check_room.ensures)

pub put_list-requires-2-clause-room : goal.put_list-requires-2-clause-room
put_list-requires-2-clause-room c =
    let n = list_length c.list_of-start.result.now (part_numbers c.list_of-start.result.now) c.list_of-start.ensures.whole refl in
    let k = length_list_bytes (part_numbers c.list_of-start.result.now) in
    let bytes = ap length c.new-sheet.ensures.bytes in
    let front = c.new-sheet.ensures.front in
    let fits = c.in_ok-check_room.ensures in
    let header = c.put_header.ensures in
    let start = c.put_list.ensures in
    omega (arith, header.wrote.place, header.long, start.wrote.place, start.long)

pub put-requires : goal.put-requires
put-requires c =
    let l = c.args.layers.now in
    let n = list_length c.list_of-start.result.now (part_numbers c.list_of-start.result.now) c.list_of-start.ensures.whole refl in
    let m = list_length c.list_of-goal.result.now (part_numbers c.list_of-goal.result.now) c.list_of-goal.ensures.whole refl in
    let k = length_list_bytes (part_numbers c.list_of-start.result.now) in
    let j = length_list_bytes (part_numbers c.list_of-goal.result.now) in
    let p = length_plan (levels_of l) in
    let q = levels_length l in
    let r = c.total.ensures.is in
    let bytes = ap length c.new-sheet.ensures.bytes in
    let front = c.new-sheet.ensures.front in
    let fits = c.in_ok-check_room.ensures in
    let header = c.put_header.ensures in
    let start = c.put_list.ensures in
    let goal = c.put_list-2.ensures in
    omega (arith, header.wrote.place, header.long, start.wrote.place, start.long, goal.wrote.place, goal.long)

pub returns : goal.returns
returns c =
    let t = task_of c.args.task.now in
    let l = c.args.layers.now in
    let s = list_length c.list_of-start.result.now t.start c.list_of-start.ensures.whole c.list_of-start.ensures.says in
    let g = list_length c.list_of-goal.result.now t.goal c.list_of-goal.ensures.whole c.list_of-goal.ensures.says in
    let n = c.sheet_length-needed.ensures ∙ length_layered t l _ _ c.total.result c.of-header.result c.of-header.ensures s g c.total.ensures.is in
    let parts = layered_parts t l _ _ c.total.result c.of-header.result c.of-header.ensures s g c.total.ensures.is in
    let front = c.new-sheet.ensures.front in
    let start = writes_as (ap list_bytes c.list_of-start.ensures.says) c.put_list.ensures in
    let goal = writes_as (ap list_bytes c.list_of-goal.ensures.says) c.put_list-2.ensures in
    let whole = writes_as parts (writes_on (writes_on (writes_on c.put_header.ensures start) goal) c.put.ensures) in
    (n, c.in_ok-check_room.ensures, writes_front (search rules) front c.new-sheet.ensures.bytes whole ∙ ap (λ k. encode (layered t l) ++ drop k c.args.out.now) (sym n))
