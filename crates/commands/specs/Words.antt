-- Which words ask for what.
use Rattle.std.specs.Prelude.{◌≡◌, ℕ, cond, List, [], ◌∷◌, map, string_bytes, codes, Option, String, MatchOption}
use Rattle.std.specs.Borrow.{Bor}
use Rattle.std.specs.declared.alloc.Global.{Global}
use Rattle.scripts.specs.Lines.{Writes}
use Rattle.commands.specs.declared.command.Command.{Command}
use Rattle.commands.specs.declared.command.Command.TheVariants.{List as Listing, Rack, Check, Recast, Run, Explain, Help}
use Rattle.commands.specs.declared.command.Output.{Output}

-- the first word and the words behind it
abbrev pub FirstOf : List (List ℕ) → Option (Bor (List ℕ) × Bor (List (String Global))) → Type 0
FirstOf words r = MatchOption r (words ≡ []) (λ p. words ≡ p.0.now ∷ map string_bytes p.1.now)

-- a file, and behind it the word that says that it may be replaced
abbrev pub NamesFile : List (List ℕ) → Output → Type 0
NamesFile words o = words ≡ o.file.now ∷ cond o.replace (codes "replace" ∷ []) []

abbrev pub AsksOutput : List (List ℕ) → Option Output → Type 0
AsksOutput words r = MatchOption r ((o : Output) → NamesFile words o → ⊥) (λ o. NamesFile words o)

-- one number alone
abbrev pub NamesNumber : List (List ℕ) → ℕ → Type 0
NamesNumber words n = (ds : List ℕ) × (words ≡ ds ∷ []) × Writes ds n

abbrev pub AsksNumber : List (List ℕ) → Option ℕ → Type 0
AsksNumber words r = MatchOption r ((n : ℕ) → NamesNumber words n → ⊥) (λ n. NamesNumber words n)

-- two numbers and a file
abbrev pub NamesRack : List (List ℕ) → ℕ → ℕ → Output → Type 0
NamesRack words loggers baths o = (ds : List ℕ) × (es : List ℕ) × (rest : List (List ℕ)) × (words ≡ ds ∷ es ∷ rest) × Writes ds loggers × Writes es baths × NamesFile rest o

-- the words ask for this command
abbrev pub Asks : List (List ℕ) → Command → Type 0
Asks words Listing = words ≡ []
Asks words (Rack loggers baths o) = (rest : List (List ℕ)) × (words ≡ codes "rack" ∷ rest) × NamesRack rest loggers baths o
Asks words Check = words ≡ codes "check" ∷ []
Asks words (Recast o) = (rest : List (List ℕ)) × (words ≡ codes "recast" ∷ rest) × NamesFile rest o
Asks words Run = words ≡ codes "run" ∷ []
Asks words (Explain n) = (rest : List (List ℕ)) × (words ≡ codes "explain" ∷ rest) × NamesNumber rest n
Asks words Help = words ≡ codes "help" ∷ []

-- an answer is the command that the words ask for, none where they ask for none
abbrev pub AsksCommand : List (List ℕ) → Option Command → Type 0
AsksCommand words r = MatchOption r ((a : Command) → Asks words a → ⊥) (λ a. Asks words a)

abbrev pub AsksRack : List (List ℕ) → Option Command → Type 0
AsksRack words r = MatchOption r ((loggers baths : ℕ) (o : Output) → NamesRack words loggers baths o → ⊥) (λ a. Asks (codes "rack" ∷ words) a)
