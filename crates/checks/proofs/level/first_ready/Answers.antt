use Rattle.std.proofs.Common.{ℕ, ◌<◌, ◌≤◌, Option, Some, None, MatchOption, rules, arith}
use Rattle.std.proofs.lemmas.Iterator.{first_from_Range}
use Rattle.checks.specs.Levels.{ReadyAt}
use Rattle.checks.proofs.level.first_ready.Goals as goal

-- from 0 on
from_start : (n : ℕ) (Yes No : ℕ → Type 0) (o : Option ℕ)
    → MatchOption o ((k : ℕ) → 0 ≤ k → k < n → No k) (λ i. (0 ≤ i) × (i < n) × Yes i × ((k : ℕ) → 0 ≤ k → k < i → No k))
    → MatchOption o ((k : ℕ) → k < n → No k) (λ i. (i < n) × Yes i × ((k : ℕ) → k < i → No k))
from_start n Yes No None d = λ k l. d k (omega arith) l
from_start n Yes No (Some i) d = (d.1, d.2, λ k l. d.3 k (omega arith) l)

pub returns : goal.returns
returns c =
    let ready = ReadyAt c.args.left.now c.args.rows.now in
    from_start c.args.count ready (λ i. ready i → ⊥) c.find.result
    (first_from_Range _ _ _ _ ready (λ i. ready i → ⊥) c.find.ensures.ran (λ i q k. search rules) (λ i q k. (search rules, search rules)))
