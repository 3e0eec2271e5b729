-- A recast has one answer.
use Rattle.std.proofs.Common.{◌≡◌, ℕ, List, ◌++◌, drop, Ok, Err, Result, sym, refl, ap, ◌∙◌, subst, arith}
use Rattle.books.specs.Book.{Model}
use Rattle.sheets.specs.declared.writing.TooShort.{TooShort}
use Rattle.task_sheets.specs.Content.{Task, encode}
use Rattle.plans.proofs.Recasting.{one_recast}
use Rattle.checks.specs.Checked.{Checked}
use Rattle.checks.specs.declared.fault.PlanFault.{PlanFault}
use Rattle.checks.proofs.Answers.{one_answer}
use Rattle.cards.specs.declared.fault.RunFault.{RunFault}
use Rattle.cards.specs.declared.fault.RunFault.TheVariants.{Plan, InHand, SpanTooSmall, NoPlace, WrongState, Unfinished, TooShort as Short}
use Rattle.recasts.specs.Recasts.{RecastOf, SheetWritten, RecastWritten, Recasts, OneRecastAnswer}

-- a task has one recast
one_task : (m : Model) (t x y : Task) → RecastOf m t x → RecastOf m t y → x ≡ y
one_task m t x y p q = λ i. record {
  facts = (p.facts ∙ sym q.facts) i;
  steps = (p.steps ∙ sym q.steps) i;
  start = (p.start ∙ sym q.start) i;
  goal = (p.goal ∙ sym q.goal) i;
  levels = one_recast m t.levels x.levels y.levels p.strata q.strata i;
}

-- a sheet is written in one way
one_writing : (t : Task) (before : List ℕ) (r r' : Result ℕ TooShort) (after after' : List ℕ) → SheetWritten t before r after → SheetWritten t before r' after'
    → (r ≡ r') × (after ≡ after')
one_writing t before (Ok n) (Ok k) after after' w v =
    let e : n ≡ k = w.0 ∙ sym v.0 in
    (ap Ok e, w.2 ∙ ap (λ x. encode t ++ drop x before) e ∙ sym v.2)
one_writing t before (Ok n) (Err e) after after' w v = absurd (omega (arith, w.0, w.1, v.0, v.1))
one_writing t before (Err e) (Ok n) after after' w v = absurd (omega (arith, w.0, w.1, v.0, v.1))
one_writing t before (Err e) (Err f) after after' w v =
    let k : e.needed ≡ f.needed = w.0 ∙ sym v.0 in
    let same : e ≡ f = λ i. record { needed = k i } in
    (ap (λ (x : TooShort). Err x) same, w.2 ∙ sym v.2)

module _ (m : Model) (t : Task) (before : List ℕ) where
  -- how a recast stands
  data Standing (after : List ℕ) : Type 0 where
    unsound : (f : PlanFault) → Checked m t (Err f) → after ≡ before → Standing after
    sound : (r : Result ℕ TooShort) → Checked m t (Ok tt) → RecastWritten m t before r after → Standing after

  abbrev written : Result ℕ TooShort → Result ℕ RunFault
  written (Ok n) = Ok n
  written (Err e) = Err (Short e)

  abbrev says : {after : List ℕ} → Standing after → Result ℕ RunFault
  says (unsound f w e) = Err (Plan f)
  says (sound r w v) = written r

  standing : (r : Result ℕ RunFault) (after : List ℕ) → Recasts m t before r after → (s : Standing after) × (r ≡ says s)
  standing (Ok n) after w = (sound (Ok n) w.0 w.1, refl)
  standing (Err (Plan f)) after w = (unsound f w.0 w.1, refl)
  standing (Err (Short e)) after w = (sound (Err e) w.0 w.1, refl)
  standing (Err InHand) after w = absurd w
  standing (Err SpanTooSmall) after w = absurd w
  standing (Err NoPlace) after w = absurd w
  standing (Err WrongState) after w = absurd w
  standing (Err (Unfinished u)) after w = absurd w

  both : (f : PlanFault) → Checked m t (Err f) → Checked m t (Ok tt) → ⊥
  both f v w =
      let e = one_answer m t (Err f) (Ok tt) v w in cc

  one_standing : {after after' : List ℕ} (x : Standing after) (y : Standing after') → (says x ≡ says y) × (after ≡ after')
  one_standing (unsound f v e) (unsound g w d) =
      let k = one_answer m t (Err f) (Err g) v w in
      let same : f ≡ g = cc in
      (ap (λ (h : PlanFault). Err (Plan h)) same, e ∙ sym d)
  one_standing (unsound f v e) (sound r w d) = absurd (both f v w)
  one_standing (sound r w d) (unsound f v e) = absurd (both f v w)
  one_standing {after} {after'} (sound r w d) (sound r' v e) =
      let same = one_task m t d.task e.task d.recast e.recast in
      let k = one_writing e.task before r r' after after' (subst (λ x. SheetWritten x before r after) same d.written) e.written in
      (ap written k.0, k.1)

pub one_recast_answer : OneRecastAnswer
one_recast_answer m t before r r' after after' w w' =
    let x = standing m t before r after w in
    let y = standing m t before r' after' w' in
    let k = one_standing m t before x.0 y.0 in
    (x.1 ∙ k.0 ∙ sym y.1, k.1)
