-- The bytes of the words of a set, word by word, and of a refusal.
use Rattle.std.proofs.Common.{◌≡◌, ℕ, ◌+◌, ◌<◌, List, [], ◌∷◌, ◌++◌, length, get_or, take, refl, ap}
use Rattle.std.proofs.lemmas.List.{take_more}
use Rattle.checks.specs.Faults.{plan_notice, plan_number}
use Rattle.checks.specs.declared.fault.PlanFault.{PlanFault}
use Rattle.checks.specs.declared.fault.PlanFault.TheVariants.{Sheet, Mismatch, NeedMissing, NoOrder, GoalMissing}
use Rattle.cards.specs.Faults.{run_notice, run_number}
use Rattle.cards.specs.declared.fault.RunFault.{RunFault}
use Rattle.cards.specs.declared.fault.RunFault.TheVariants.{Plan, InHand, SpanTooSmall, NoPlace, WrongState, Unfinished, TooShort}
use Rattle.bench.specs.Records.{word_of, word_bytes}

-- words in two parts
pub bytes-++ : (xs : List ℕ) (w : ℕ) → word_bytes (xs ++ (w ∷ [])) ≡ word_bytes xs ++ word_of w
bytes-++ [] w = refl
bytes-++ (x ∷ xs) w = ap (λ ys. word_of x ++ ys) (bytes-++ xs w)

-- one word more
pub word_more : (xs : List ℕ) (i : ℕ) → i < length xs → word_bytes (take i xs) ++ word_of (get_or xs i 0) ≡ word_bytes (take (i + 1) xs)
word_more xs i h = rw (take_more xs i 0 h) (rw (bytes-++ (take i xs) (get_or xs i 0)) refl)

-- a refusal's number, by either name
plan_same : (f : PlanFault) → (plan_notice f).number ≡ plan_number f
plan_same (Sheet f) = refl
plan_same Mismatch = refl
plan_same (NeedMissing level step fact) = refl
plan_same (NoOrder level) = refl
plan_same (GoalMissing fact) = refl

pub same_number : (f : RunFault) → (run_notice f).number ≡ run_number f
same_number (Plan f) = plan_same f
same_number InHand = refl
same_number SpanTooSmall = refl
same_number NoPlace = refl
same_number WrongState = refl
same_number (Unfinished u) = refl
same_number (TooShort e) = refl
