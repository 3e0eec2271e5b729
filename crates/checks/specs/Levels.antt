-- Passing one level of a plan.
use Rattle.std.specs.Prelude.{◌≡◌, ℕ, ◌<◌, true, false, not, ◌&&◌, List, ◌++◌, length, map, Decides, slice_index}
use Rattle.std.specs.List.{ContainsAt as Has, HoldsAt, AllByRecursion}
use Rattle.facts.specs.Sets.{holds, First}
use Rattle.facts.specs.declared.NumberSet.{NumberSet}
use Rattle.books.specs.Book.{Model, Facts}
use Rattle.plans.specs.Steps.{Met, passed}
use Rattle.plans.specs.Plans.{Authorized}
use Rattle.plans.specs.Order.{Before, Picked}
use Rattle.checks.specs.declared.fault.PlanFault.{PlanFault}
use Rattle.checks.specs.declared.fault.PlanFault.TheVariants.{Sheet, Mismatch, NeedMissing, NoOrder, GoalMissing}
use Rattle.checks.specs.declared.draft.PlacedStep.{PlacedStep}
use Rattle.checks.specs.Drafts.{placed, Told}

module _ (m : Model) (xs : List ℕ) where
  -- the row has the positions of the steps that come before the one at i
  abbrev pub RowAt : ℕ → NumberSet 4 → Type 0
  RowAt i row = (j : ℕ) → Decides (holds row.words j) ((j < length xs) × Before m (slice_index xs j) (slice_index xs i))

  -- for each step there is its row
  abbrev pub Rowed : List (NumberSet 4) → Type 0
  Rowed rows = (i : ℕ) → i < length xs → HoldsAt (RowAt i) rows i

-- position i is left, and none that is left stands in its row
abbrev pub ReadyAt : NumberSet 4 → List (NumberSet 4) → ℕ → Type 0
ReadyAt left rows i = (holds left.words i ≡ true) × HoldsAt (λ row. (q : ℕ) → (holds row.words q && holds left.words q) ≡ false) rows i

-- the draft has grown by the steps bs as level number, in this order, with their facts
pub record Grown (m : Model) (bs : List ℕ) (number : ℕ) (old new : List PlacedStep) : Type 0 where
  pub added : List PlacedStep
  pub after : new ≡ old ++ added
  pub places : placed added ≡ map (λ b. record { step = b; level = number }) bs
  pub told : Told m added

module _ (m : Model) (E : Facts) (xs : List ℕ) where
  -- a is the smallest step of xs that lacks a need, and p the smallest fact that it lacks
  pub record LacksNeed (a p : ℕ) : Type 0 where
    pub has : Has xs a
    pub lacking : First (λ q. m.needs a q && not (E q)) p
    pub smaller : (b : ℕ) → Has xs b → b < a → Met m E b

  -- why the level xs does not pass from the facts E on; its number is named
  abbrev pub LevelRefused : ℕ → PlanFault → Type 0
  LevelRefused number (Sheet f) = ⊥
  LevelRefused number Mismatch = ⊥
  LevelRefused number (NeedMissing n a p) = (n ≡ number) × LacksNeed a p
  LevelRefused number (NoOrder n) = (n ≡ number) × AllByRecursion (Met m E) xs × (Authorized m xs → ⊥)
  LevelRefused number (GoalMissing p) = ⊥

  -- the level passes and leaves these facts, and the draft has grown by its picked order
  pub record LevelPassed (number : ℕ) (words : List ℕ) (old new : List PlacedStep) : Type 0 where
    pub met : AllByRecursion (Met m E) xs
    pub order : List ℕ
    pub picked : Picked m xs order
    pub grown : Grown m order number old new
    pub facts : (q : ℕ) → holds words q ≡ passed m E xs q
