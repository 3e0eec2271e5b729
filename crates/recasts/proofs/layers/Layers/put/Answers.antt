use Rattle.std.proofs.Common.{◌+◌, length, sym, ap, ◌∙◌, arith}
use Rattle.cards.specs.Cards.{size_of}
use Rattle.books.specs.Listed.{members}
use Rattle.sheets.proofs.Writers.{writes_on, writes_as}
use Rattle.task_sheets.specs.Content.{list_bytes, plan_bytes}
use Rattle.recasts.specs.Layers.{step_of, stratum_of, steps_of, levels_below}
use Rattle.recasts.proofs.Rows.{rows_more, row_put}
use Rattle.recasts.proofs.Plans.{plan_push, length_more, length_up}
use Rattle.recasts.proofs.layers.Layers.put.Goals as goal

pub put_set-requires : goal.put_set-requires
put_set-requires c =
    let l = c.args.self.now in
    let k = c.loop-k.k in
    let n = ap length (row_put c.steps.result.words (steps_of l k) c.steps.ensures) in
    let more = length_more (step_of l) (stratum_of l) (size_of l.card.now) k in
    let up = length_up (step_of l) (stratum_of l) (size_of l.card.now) (k + 1) l.count (omega arith) in
    let w = c.loop-k.invariant in
    omega (arith, w.wrote.place, w.long)

pub loop-k-preserved : goal.loop-k-preserved
loop-k-preserved c =
    let l = c.args.self.now in
    let k = c.loop-k.k in
    let e = ap list_bytes (row_put c.steps.result.words (steps_of l k) c.steps.ensures) in
    let m = ap plan_bytes (rows_more (step_of l) (stratum_of l) (size_of l.card.now) k) ∙ plan_push (levels_below l k) (members (steps_of l k) 512) in
    writes_as (sym m) (writes_on c.loop-k.invariant (writes_as e c.put_set.ensures))
