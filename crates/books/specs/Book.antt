-- What a step book means, and what makes it lawful.
use Rattle.std.specs.Prelude.{◌≡◌, ℕ, ◌≤◌, Bool, false, not, ◌&&◌, ◌||◌}
unfoldable pub use Rattle.facts.specs.Sets.{count}

-- a set of facts, by asking of each number whether it is in
abbrev pub Facts : Type 0
Facts = ℕ → Bool

-- facts 0 to facts - 1 and steps 0 to steps - 1; the facts that each step needs, adds and deletes; its time in seconds
pub record Model : Type 0 where
  pub facts : ℕ
  pub steps : ℕ
  pub needs : ℕ → Facts
  pub adds : ℕ → Facts
  pub deletes : ℕ → Facts
  pub seconds : ℕ → ℕ

-- sets of facts by step: none past the steps, no fact past the facts, at most 250 facts to a step
pub record StepSets (facts steps : ℕ) (sets : ℕ → Facts) : Type 0 where
  pub no_step : (a p : ℕ) → steps ≤ a → sets a p ≡ false
  pub no_fact : (a p : ℕ) → facts ≤ p → sets a p ≡ false
  pub few : (a : ℕ) → count (sets a) facts ≤ 250

-- the laws of a book
pub record Lawful (m : Model) : Type 0 where
  pub few_facts : m.facts ≤ 1024
  pub few_steps : m.steps ≤ 512
  pub needs : StepSets m.facts m.steps m.needs
  pub adds : StepSets m.facts m.steps m.adds
  pub deletes : StepSets m.facts m.steps m.deletes
  -- no step adds a fact that it deletes
  pub apart : (a p : ℕ) → (m.adds a p && m.deletes a p) ≡ false
  pub short : (a : ℕ) → m.seconds a ≤ 1000000
  pub no_time : (a : ℕ) → m.steps ≤ a → m.seconds a ≡ 0

-- the facts after step a is done singly: what it deletes is removed, then what it adds is put
abbrev pub after : Model → Facts → ℕ → Facts
after m E a p = (E p && not (m.deletes a p)) || m.adds a p
