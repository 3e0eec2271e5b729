use Rattle.std.proofs.Common.{◌≡◌, ◌<◌, [], ◌∷◌, ◌++◌, length, get_or, rules, refl, arith}
use Rattle.std.proofs.lemmas.Result.{err_from_is_err_and}
use Rattle.std.proofs.lemmas.List.{length_push, length-map}
use Rattle.facts.specs.Sets.{holds}
use Rattle.plans.specs.Plans.{Ascending}
use Rattle.plans.proofs.Taking.{taking_none}
use Rattle.checks.specs.declared.draft.PlacedStep.{PlacedStep}
use Rattle.checks.specs.declared.level.Level.{Level}
use Rattle.checks.specs.Drafts.{steps_of}
use Rattle.checks.proofs.Levels.{pairwise_climbs, place_at, told_at}
use Rattle.checks.proofs.Turns.{turn_more, turn_stuck, turns_all, grown_none, grown_more}
use Rattle.checks.proofs.level.Level.order.Goals as goal

-- how many steps there are
steps : (l : Level) → length (steps_of l.steps.now) ≡ length l.steps.now
steps l = length-map l.steps.now (λ (s : PlacedStep). s.place.step)

up : (l : Level) → Ascending (steps_of l.steps.now)
up l = pairwise_climbs (steps_of l.steps.now) (λ i j h k. l.rising i j h (omega (arith, steps l)))

pub loop-turn-init : goal.loop-turn-init
loop-turn-init c =
    let l = c.args.self.now in (
      omega arith,
      λ m t. (
        [],
        taking_none m (steps_of l.steps.now) (up l) (holds c.from_fn-left.result.words)
            (λ i h. let e = c.from_fn-left.ensures.below i (omega (arith, steps l)) (omega (arith, steps l)) in search rules),
        refl,
        grown_none m l.number c.args.draft.now.items,
      ),
    )

pub returns-in_err-i : goal.returns-in_err-i
returns-in_err-i c m t =
    let l = c.args.self.now in
    let p = err_from_is_err_and c.from_residual.result c.from_residual.ensures.1 in
    let v = c.loop-turn.invariant.1 m t in
    let none = rw c.in_err-i.ensures.ok_part at c.first_ready.ensures in
    rw (p.1, p.2) (
      (let e = rw c.in_err-i.ensures.ok_part at c.in_err-i.ensures.value in cc),
      turn_stuck m (steps_of l.steps.now) (up l) c.fill_rows.new.rows (c.fill_rows.ensures m t) c.loop-turn.left v.0 v.1 (omega (arith, v.2, steps l))
          (λ i h. none i (omega (arith, steps l))),
    )

pub loop-turn-preserved : goal.loop-turn-preserved
loop-turn-preserved c =
    let l = c.args.self.now in
    let xs = steps_of l.steps.now in
    let i = c.in_ok-i.i in
    let s = c.index-steps-i.result in
    let w = rw c.in_ok-i.ensures.ok_part at c.first_ready.ensures in
    let within : i < length l.steps.now = omega (arith, w.0) in
    let here = c.index-steps-i.is in (
      omega (arith, c.push.ensures.len, c.loop-turn.invariant.0),
      λ m t. let v = c.loop-turn.invariant.1 m t in (
        v.0 ++ get_or xs i 0 ∷ [],
        turn_more m xs (up l) c.fill_rows.new.rows (c.fill_rows.ensures m t) c.loop-turn.left v.0 v.1 i (omega (arith, steps l)) w.1 w.2
            c.remove.new.self c.remove.ensures.after,
        omega (arith, length_push v.0 (get_or xs i 0), v.2),
        rw c.push.ensures.items (grown_more m l.number v.0 (get_or xs i 0) s c.args.draft.now.items c.loop-turn.draft.items v.3
            (place_at l.steps.now i s within here l.number (l.numbered i within)) (told_at l.steps.now i s within here m t)),
      ),
    )

pub returns : goal.returns
returns c m t =
    let l = c.args.self.now in
    let v = c.loop-turn.invariant.1 m t in
    (v.0, turns_all m (steps_of l.steps.now) (up l) (holds c.loop-turn.left.words) v.0 v.1 (omega (arith, v.2, steps l)), v.3)
