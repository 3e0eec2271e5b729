-- No two texts list the same sheets.
use Rattle.std.proofs.Common.{◌≡◌, ℕ, ◌<◌, ◌≤◌, ◌⊎◌, List, length, Ok, Err, Result, sym, ◌∙◌, subst, inl, inr, arith}
use Rattle.books.specs.Book.{Model}
use Rattle.sheets.specs.declared.fault.SheetFault.{SheetFault}
use Rattle.sheets.specs.declared.fault.Sheet.TheVariants.{Book, Task as OfTask}
use Rattle.sheets.specs.Verdicts.{verdict_on}
use Rattle.book_sheets.specs.Layout.{book_verdict}
use Rattle.task_sheets.specs.Layout.{task_verdict}
use Rattle.task_sheets.specs.Content.{Task}
use Rattle.checks.specs.declared.fault.PlanFault.{PlanFault}
use Rattle.checks.specs.Bytes.{Unless, BytesChecked}
use Rattle.checks.proofs.Answers.{one_answer}
use Rattle.listings.specs.Listings.{book_in, task_in, Tells, Opened, longest, OneText}
use Rattle.listings.proofs.Alike.{one_shown}

-- a refused sheet has one answer, and an opened one as many as what follows
unless_one : (v : Result (Unit {0}) SheetFault) (r r' : Result (Unit {0}) PlanFault) (P P' : Type 0) → (P → P' → r ≡ r') → Unless v r P → Unless v r' P' → r ≡ r'
unless_one (Ok u) r r' P P' f p q = f p q
unless_one (Err e) r r' P P' f p q = p ∙ sym q

bytes_one : (bs ts : List ℕ) (r r' : Result (Unit {0}) PlanFault) → BytesChecked bs ts r → BytesChecked bs ts r' → r ≡ r'
bytes_one bs ts r r' =
    unless_one (verdict_on Book (book_verdict bs)) r r' _ _
    (unless_one (verdict_on OfTask (task_verdict ts)) r r' _ _ (one_answer (book_in bs) (task_in ts) r r'))

tells_one : (m : Model) (t : Task) (r : Result (Unit {0}) PlanFault) (text other : List ℕ) → Tells m t r text → Tells m t r other → text ≡ other
tells_one m t (Ok u) text other p q = p.2 ∙ one_shown m t p.0 q.0 p.1 q.1 ∙ sym q.2
tells_one m t (Err f) text other p q = p ∙ sym q

opened_one : (bs ts text other : List ℕ) → Opened bs ts text → Opened bs ts other → text ≡ other
opened_one bs ts text other p q =
    let e = bytes_one bs ts p.answer q.answer p.checked q.checked in
    tells_one (book_in bs) (task_in ts) q.answer text other (subst (λ r. Tells (book_in bs) (task_in ts) r text) e p.told) q.told

too_long : (bs ts : List ℕ) → (longest < length bs) ⊎ (longest < length ts) → length bs ≤ longest → length ts ≤ longest → ⊥
too_long bs ts (inl a) b c = omega arith
too_long bs ts (inr a) b c = omega arith

pub one_text : OneText
one_text bs ts text other (inl p) (inl q) = p.1 ∙ sym q.1
one_text bs ts text other (inl p) (inr q) = absurd (too_long bs ts p.0 q.0 q.1)
one_text bs ts text other (inr p) (inl q) = absurd (too_long bs ts q.0 p.0 p.1)
one_text bs ts text other (inr p) (inr q) = opened_one bs ts text other p.2 q.2
