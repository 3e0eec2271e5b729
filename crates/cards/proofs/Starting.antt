-- No issue has two answers.
use Rattle.std.proofs.Common.{◌≡◌, ℕ, ◌<◌, ◌≤◌, Ok, Err, Result, sym, refl, ap, ◌∙◌, arith}
use Rattle.std.proofs.lemmas.Bool.{both_ways}
use Rattle.books.specs.Book.{Model, Facts}
use Rattle.task_sheets.specs.Content.{Task}
use Rattle.checks.specs.Checked.{Checked}
use Rattle.checks.specs.declared.fault.PlanFault.{PlanFault}
use Rattle.checks.proofs.Answers.{one_answer}
use Rattle.cards.specs.Cards.{SomeInHand, NoneInHand}
use Rattle.cards.specs.Issues.{IssueAnswered, OneIssueAnswer}
use Rattle.cards.specs.declared.card.Card.{Card}
use Rattle.cards.specs.declared.fault.RunFault.{RunFault}
use Rattle.cards.specs.declared.fault.RunFault.TheVariants.{Plan, InHand, SpanTooSmall, NoPlace, WrongState, Unfinished, TooShort}

module _ (m : Model) (span : ℕ) (t : Task) (c : Card) where
  -- how an issue stands
  data Standing : Type 0 where
    unsound : (f : PlanFault) → Checked m t (Err f) → Standing
    busy : Checked m t (Ok tt) → SomeInHand c → Standing
    narrow : Checked m t (Ok tt) → NoneInHand c → span < m.facts → Standing
    clear : Checked m t (Ok tt) → NoneInHand c → m.facts ≤ span → Standing

  abbrev says : Standing → Result (Unit {0}) RunFault
  says (unsound f w) = Err (Plan f)
  says (busy w h) = Err InHand
  says (narrow w n l) = Err SpanTooSmall
  says (clear w n l) = Ok tt

  standing : (r : Result (Unit {0}) RunFault) (c' : Card) (board' : Facts) → IssueAnswered m span t c r c' board' → (s : Standing) × (r ≡ says s)
  standing (Ok _) c' board' w = (clear w.1.accepted w.0 w.1.room, refl)
  standing (Err (Plan f)) c' board' w = (unsound f w, refl)
  standing (Err InHand) c' board' w = (busy w.0 w.1, refl)
  standing (Err SpanTooSmall) c' board' w = (narrow w.0 w.1 w.2, refl)
  standing (Err NoPlace) c' board' w = absurd w
  standing (Err WrongState) c' board' w = absurd w
  standing (Err (Unfinished u)) c' board' w = absurd w
  standing (Err (TooShort f)) c' board' w = absurd w

  sound : (f : PlanFault) → Checked m t (Err f) → Checked m t (Ok tt) → ⊥
  sound f v w = let e = one_answer m t (Err f) (Ok tt) v w in cc

  idle : SomeInHand c → NoneInHand c → ⊥
  idle h n = both_ways _ (n h.0 h.1) h.2

  same_fault : (f g : PlanFault) → Checked m t (Err f) → Checked m t (Err g) → f ≡ g
  same_fault f g v w = let e = one_answer m t (Err f) (Err g) v w in cc

  one_standing : (x y : Standing) → says x ≡ says y
  one_standing (unsound f v) (unsound g w) = ap (λ (h : PlanFault). Err (Plan h)) (same_fault f g v w)
  one_standing (unsound f v) (busy w h) = absurd (sound f v w)
  one_standing (unsound f v) (narrow w n l) = absurd (sound f v w)
  one_standing (unsound f v) (clear w n l) = absurd (sound f v w)
  one_standing (busy w h) (unsound f v) = absurd (sound f v w)
  one_standing (busy w h) (busy v k) = refl
  one_standing (busy w h) (narrow v n l) = absurd (idle h n)
  one_standing (busy w h) (clear v n l) = absurd (idle h n)
  one_standing (narrow w n l) (unsound f v) = absurd (sound f v w)
  one_standing (narrow w n l) (busy v k) = absurd (idle k n)
  one_standing (narrow w n l) (narrow v o k) = refl
  one_standing (narrow w n l) (clear v o k) = absurd (omega arith)
  one_standing (clear w n l) (unsound f v) = absurd (sound f v w)
  one_standing (clear w n l) (busy v k) = absurd (idle k n)
  one_standing (clear w n l) (narrow v o k) = absurd (omega arith)
  one_standing (clear w n l) (clear v o k) = refl

pub one_issue_answer : OneIssueAnswer
one_issue_answer m span t c r r' c₁ c₂ b₁ b₂ w w' =
    let x = standing m span t c r c₁ b₁ w in
    let y = standing m span t c r' c₂ b₂ w' in
    x.1 ∙ one_standing m span t c x.0 y.0 ∙ sym y.1
