use Rattle.std.proofs.Common.{◌≡◌, ◌+◌, length, ap, subst, inl, arith}
use Rattle.std.proofs.lemmas.Result.{err_from_is_err_and}
use Rattle.facts.specs.Sets.{holds}
use Rattle.task_sheets.specs.Parts.{numbers_of}
use Rattle.task_sheets.specs.Opened.{task_of, rest}
use Rattle.checks.specs.Levels.{LevelRefused, LevelPassed}
use Rattle.checks.proofs.TaskLists.{sheet_lawful}
use Rattle.checks.proofs.Passing.{next_of, level_room, level_lawful, level_refused, ascending, drafted_more}
use Rattle.checks.proofs.checking.pass_levels.Goals as goal

pub loop-i-init-derived : goal.loop-i-init-derived
loop-i-init-derived g c =
    let w = (sheet_lawful c.args.task.now).few_levels in
    let e : rest c.into_iter-i-iterator.result.iter ≡ (task_of c.args.task.now).levels = cc in
    let z : c.into_iter-i-iterator.result.count ≡ 0 = cc in
    ((tt, tt, inl (omega (arith, ap length e))), tt)

pub pass_level-requires : goal.pass_level-requires
pass_level-requires g c =
    let t = task_of c.args.task.now in
    let w = sheet_lawful c.args.task.now in
    let k = c.loop-i.i-iterator.count in
    let ps = numbers_of c.in-Some.level in
    let n = next_of t.levels k ps (rest c.next.new.self.iter) (rest c.loop-i.i-iterator.iter) c.loop-i.invariant.to_come c.in-Some.ensures.steps.0 in
    let r = level_room (g.B.Book.model c.args.book.now) t k c.loop-i.facts c.loop-i.draft.items c.loop-i.invariant.passed ps n.0 n.1 w in
    let a = (level_lawful (g.B.Book.model c.args.book.now) t k c.loop-i.facts c.loop-i.draft.items c.loop-i.invariant.passed ps n.0 n.1 w).ascending in (
      ascending _ ps a,
      r,
    )

pub returns-in_err-facts : goal.returns-in_err-facts
returns-in_err-facts g c =
    let t = task_of c.args.task.now in
    let m = g.B.Book.model c.args.book.now in
    let k = c.loop-i.i-iterator.count in
    let ps = numbers_of c.in-Some.level in
    let n = next_of t.levels k ps (rest c.next.new.self.iter) (rest c.loop-i.i-iterator.iter) c.loop-i.invariant.to_come c.in-Some.ensures.steps.0 in
    let p = err_from_is_err_and c.from_residual.result c.from_residual.ensures.1 in
    let r = subst (λ i. LevelRefused m (holds c.loop-i.facts) ps (i + 1) c.in_err-facts.field-0.0) c.in-Some.ensures.steps.1 c.in_err-facts.ensures in
    rw (p.1, p.2) (level_refused m t k c.loop-i.facts c.loop-i.draft.items c.loop-i.invariant.passed _ n.0 n.1 c.requires.0 _ r)

pub loop-i-preserved : goal.loop-i-preserved
loop-i-preserved g c =
    let t = task_of c.args.task.now in
    let m = g.B.Book.model c.args.book.now in
    let k = c.loop-i.i-iterator.count in
    let ps = numbers_of c.in-Some.level in
    let n = next_of t.levels k ps (rest c.next.new.self.iter) (rest c.loop-i.i-iterator.iter) c.loop-i.invariant.to_come c.in-Some.ensures.steps.0 in
    let on = c.in-Some.ensures.steps.2 in
    let pass = subst (λ i. LevelPassed m (holds c.loop-i.facts) ps (i + 1) c.in_ok-facts.facts c.loop-i.draft.items c.pass_level.new.draft.items) c.in-Some.ensures.steps.1 c.in_ok-facts.ensures in
    record {
      to_come = rw on n.2;
      passed = rw on (drafted_more m t k c.loop-i.facts c.loop-i.draft.items c.loop-i.invariant.passed _ n.0 n.1 _ _ pass);
    }
