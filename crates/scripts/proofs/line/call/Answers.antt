use Rattle.scripts.proofs.line.call.Goals as goal

pub returns-in_err-place : goal.returns-in_err-place
returns-in_err-place c = rw c.from_residual.ensures (λ n h. c.in_err-place.ensures n (rw c.words_of.ensures h))
