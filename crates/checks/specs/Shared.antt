-- What the sets of facts of two steps share.
use Rattle.std.specs.Prelude.{◌≡◌, ℕ, true, false, ◌&&◌, ◌⊎◌}
use Rattle.facts.specs.declared.NumberSet.{NumberSet}
use Rattle.facts.specs.Sets.{holds}
use Rattle.books.specs.declared.step_facts.StepFacts.{StepFacts}

-- some fact is in both sets
abbrev pub Shares : NumberSet 16 → NumberSet 16 → Type 0
Shares a b = (q : ℕ) × ((holds a.words q && holds b.words q) ≡ true)

-- no fact is in both sets
abbrev pub Apart : NumberSet 16 → NumberSet 16 → Type 0
Apart a b = (q : ℕ) → (holds a.words q && holds b.words q) ≡ false

-- a adds nothing that b deletes, and deletes nothing that b needs
abbrev pub Clear : StepFacts → StepFacts → Type 0
Clear a b = Apart a.adds b.deletes × Apart a.deletes b.needs

-- a adds a fact that b deletes, or deletes one that b needs
abbrev pub Clashes : StepFacts → StepFacts → Type 0
Clashes a b = Shares a.adds b.deletes ⊎ Shares a.deletes b.needs
