-- What a whole script says.
use Rattle.std.specs.Prelude.{◌≡◌, ℕ, ◌+◌, List, [], ◌∷◌, ◌++◌, length, Ok, Err, vec_items, Result, Vec}
use Rattle.std.specs.declared.alloc.Global.{Global}
use Rattle.cards.specs.declared.request.Request.{Request}
use Rattle.scripts.specs.declared.text.ScriptFault.{ScriptFault}
use Rattle.scripts.specs.declared.text.ScriptFault.TheVariants.{NoRequest, NoMemory}
use Rattle.scripts.specs.Lines.{Says}
use Rattle.scripts.specs.Texts.{lines_of}

-- one request for each line, in turn
abbrev pub Ask : List (List ℕ) → List Request → Type 0
Ask [] [] = Unit {0}
Ask [] (q ∷ qs) = ⊥
Ask (l ∷ ls) [] = ⊥
Ask (l ∷ ls) (q ∷ qs) = Says l q × Ask ls qs

-- line n, counted from 1, says no request, and every line before it says one
abbrev pub FirstBad : List (List ℕ) → ℕ → Type 0
FirstBad lines n = (good : List (List ℕ)) × (bad : List ℕ) × (more : List (List ℕ)) × (qs : List Request) × (lines ≡ good ++ (bad ∷ more)) × Ask good qs × ((q : Request) → Says bad q → ⊥) × (n ≡ length good + 1)

abbrev pub Scripted : List ℕ → Result (Vec Request Global) ScriptFault → Type 0
Scripted text (Ok v) = Ask (lines_of text) (vec_items v)
Scripted text (Err (NoRequest n)) = FirstBad (lines_of text) n
Scripted text (Err NoMemory) = Unit {0}
