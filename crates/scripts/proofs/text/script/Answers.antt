use Rattle.std.proofs.Common.{[], ◌∷◌, ◌++◌, vec_items, arith}
use Rattle.scripts.proofs.Texts.{next_line, no_line}
use Rattle.scripts.proofs.Scripts.{ask_pushed, ask_length, ask_all, lines_next, lines_more}
use Rattle.scripts.proofs.text.script.Goals as goal

pub returns-in_default : goal.returns-in_default
returns-in_default c =
    let step = rw c.loop-line.invariant.0 at c.in-Some.ensures.steps in
    let read = c.loop-line.invariant.1 in (
      read.0,
      c.in-Some.line.now,
      _,
      vec_items c.loop-line.requests,
      lines_next c.args.text.now c.in-Some.line.now read.0 _ _ read.1 (next_line _ _ _ _ _ step.0 step.2 step.3),
      read.2,
      c.in_default.ensures,
      omega (arith, ask_length read.0 (vec_items c.loop-line.requests) read.2, c.loop-line.requests.ok.0),
    )

pub loop-line-preserved : goal.loop-line-preserved
loop-line-preserved c =
    let step = rw c.loop-line.invariant.0 at c.in-Some.ensures.steps in
    let read = c.loop-line.invariant.1 in (
      step.1,
      (
        read.0 ++ (c.in-Some.line.now ∷ []),
        lines_more c.args.text.now c.in-Some.line.now read.0 _ _ read.1 (next_line _ _ _ _ _ step.0 step.2 step.3),
        ask_pushed read.0 (vec_items c.loop-line.requests) (vec_items c.push.new.self) c.in-Some.line.now c.in-Some-request.asked
            c.in_ok-push.ensures.items read.2 c.in-Some-request.ensures,
      ),
    )

pub returns : goal.returns
returns c =
    let step = rw c.loop-line.invariant.0 at c.in-None.ensures.steps in
    let read = c.loop-line.invariant.1 in
    ask_all c.args.text.now read.0 _ (vec_items c.loop-line.requests) read.1 (no_line _ _ step.0) read.2
