-- What the check of a plan answers.
use Rattle.std.specs.Prelude.{◌≡◌, ℕ, suc, ◌<◌, true, not, ◌&&◌, List, [], length, take, Ok, Err, Result, slice_index_or}
use Rattle.std.specs.List.{ContainsAt as Has, AllByRecursion}
use Rattle.facts.specs.Sets.{holds, First}
use Rattle.books.specs.Book.{Model, Facts}
use Rattle.books.specs.Listed.{listed}
use Rattle.plans.specs.Steps.{Met}
use Rattle.plans.specs.Plans.{Authorized, Recognized, finally, Accepted}
use Rattle.task_sheets.specs.Content.{Task}
use Rattle.checks.specs.declared.fault.PlanFault.{PlanFault}
use Rattle.checks.specs.declared.fault.PlanFault.TheVariants.{Sheet, Mismatch, NeedMissing, NoOrder, GoalMissing}

-- whether the facts E include the goal's, or which is the smallest that is missing
abbrev pub Reached : List ℕ → Facts → Result (Unit {0}) PlanFault → Type 0
Reached goal E (Ok u) = (p : ℕ) → listed goal p ≡ true → E p ≡ true
Reached goal E (Err (Sheet f)) = ⊥
Reached goal E (Err Mismatch) = ⊥
Reached goal E (Err (NeedMissing n a p)) = ⊥
Reached goal E (Err (NoOrder n)) = ⊥
Reached goal E (Err (GoalMissing p)) = First (λ q. listed goal q && not (E q)) p

module _ (m : Model) (t : Task) where
  -- the book and the task have the same numbers of facts and of steps
  pub record Matches : Type 0 where
    pub facts : m.facts ≡ t.facts
    pub steps : m.steps ≡ t.steps

  -- the facts after the first k levels
  abbrev pub facts_after_levels : ℕ → Facts
  facts_after_levels k = finally m (listed t.start) (take k t.levels)

  -- the first k levels pass
  abbrev pub PassTo : ℕ → Type 0
  PassTo k = Recognized m (listed t.start) (take k t.levels)

  -- level k + 1 is reached, and step a is its smallest that lacks a need there; p is the smallest fact that it lacks
  pub record Lacks (k a p : ℕ) : Type 0 where
    pub there : k < length t.levels
    pub reached : PassTo k
    pub has : Has (slice_index_or t.levels k []) a
    pub lacking : First (λ q. m.needs a q && not (facts_after_levels k q)) p
    pub smaller : (b : ℕ) → Has (slice_index_or t.levels k []) b → b < a → Met m (facts_after_levels k) b

  -- level k + 1 is reached and its needs are met, but it is not authorized
  pub record Stuck (k : ℕ) : Type 0 where
    pub there : k < length t.levels
    pub reached : PassTo k
    pub met : AllByRecursion (Met m (facts_after_levels k)) (slice_index_or t.levels k [])
    pub stuck : Authorized m (slice_index_or t.levels k []) → ⊥

  -- every level passes, and p is the smallest goal fact that is missing at the end
  pub record Misses (p : ℕ) : Type 0 where
    pub passed : Recognized m (listed t.start) t.levels
    pub missing : First (λ q. listed t.goal q && not (finally m (listed t.start) t.levels q)) p

  -- the words hold the facts that the plan ends in
  abbrev pub EndsIn : List ℕ → Type 0
  EndsIn words = (q : ℕ) → holds words q ≡ finally m (listed t.start) t.levels q

  -- the answer of the check: accepted, or the first refusal. Levels are named by their numbers from 1
  abbrev pub Checked : Result (Unit {0}) PlanFault → Type 0
  Checked (Ok u) = Matches × Accepted m (listed t.start) (listed t.goal) t.levels
  Checked (Err (Sheet f)) = ⊥
  Checked (Err Mismatch) = Matches → ⊥
  Checked (Err (NeedMissing n a p)) = Matches × ((k : ℕ) × (n ≡ suc k) × Lacks k a p)
  Checked (Err (NoOrder n)) = Matches × ((k : ℕ) × (n ≡ suc k) × Stuck k)
  Checked (Err (GoalMissing p)) = Matches × Misses p

-- an answer without what comes with an acceptance
abbrev pub bare : {X : Type 0} → Result X PlanFault → Result (Unit {0}) PlanFault
bare (Ok x) = Ok tt
bare (Err f) = Err f

-- no plan has two answers, so the definition decides what the check answers
abbrev pub OneAnswer : Type 0
OneAnswer = (m : Model) (t : Task) (r r' : Result (Unit {0}) PlanFault) → Checked m t r → Checked m t r' → r ≡ r'
