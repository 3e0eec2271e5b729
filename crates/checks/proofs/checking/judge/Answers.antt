use Rattle.std.proofs.Common.{◌≡◌, ℕ, length, sym, ◌∙◌, subst}
use Rattle.books.specs.Book.{Model}
use Rattle.task_sheets.specs.Content.{Task}
use Rattle.task_sheets.specs.Opened.{task_of}
use Rattle.checks.specs.Checked.{Matches}
use Rattle.checks.specs.Drafts.{Drafted}
use Rattle.checks.proofs.Passing.{goal_reached}
use Rattle.checks.proofs.checking.judge.Goals as goal

matched : (m : Model) (t : Task) (a b x y : ℕ) → a ≡ t.facts → b ≡ m.facts → a ≡ b → x ≡ t.steps → y ≡ m.steps → x ≡ y → Matches m t
matched m t a b x y e d q e' d' q' = record { facts = sym d ∙ sym q ∙ e; steps = sym d' ∙ sym q' ∙ e' }

pub returns-clause-answer : goal.returns-clause-answer
returns-clause-answer g c =
    let m = g.B.Book.model c.args.book.now in
    let t = task_of c.args.task.now in
    let d = c.pass_levels.new.draft.items in
    let h = subst (λ ws. Drafted m t (length t.levels) ws d) (sym c.of.ensures) c.in_ok-end.ensures in (
      matched m t _ _ _ _ c.facts.ensures.says c.facts-2.ensures c.if-facts.false c.steps.ensures.says c.steps-else-facts.ensures c.if-steps.false,
      goal_reached m t c.of.result.words d h c.in_ok-reach_goal.ensures,
    )
