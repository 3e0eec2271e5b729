-- What one line of a script says.
use Rattle.std.specs.Prelude.{◌≡◌, ℕ, ◌^◌, ◌<◌, List, ◌++◌, codes, Option, MatchOption}
use Rattle.std.specs.Str.Parse.{IsNumeral, digits_value}
use Rattle.cards.specs.declared.request.Request.{Request}
use Rattle.cards.specs.declared.request.Request.TheVariants.{Call, Look}
use Rattle.cards.specs.declared.state.Event.{Event}
use Rattle.cards.specs.declared.state.Event.TheVariants.{Begin, Finish, PutBack}

-- one digit or more and nothing else, that write n, which fits a machine word
abbrev pub Writes : List ℕ → ℕ → Type 0
Writes ds n = IsNumeral 10 ds × (digits_value 10 ds ≡ n) × (n < 2 ^ 64)

-- an answer is the number that the text writes, none where it writes none
abbrev pub Reads : List ℕ → Option ℕ → Type 0
Reads text r = MatchOption r ((n : ℕ) → Writes text n → ⊥) (λ n. Writes text n)

-- the line is these words and then the number n
abbrev pub Names : List ℕ → List ℕ → ℕ → Type 0
Names words line n = (ds : List ℕ) × (line ≡ words ++ ds) × Writes ds n

abbrev pub NamesPlace : List ℕ → List ℕ → Option ℕ → Type 0
NamesPlace words line r = MatchOption r ((n : ℕ) → Names words line n → ⊥) (λ n. Names words line n)

-- the words of a call
abbrev pub event_words : Event → List ℕ
event_words Begin = codes "begin "
event_words Finish = codes "finish "
event_words PutBack = codes "put back "

-- the line says this request
abbrev pub Says : List ℕ → Request → Type 0
Says line (Call a) = Names (event_words a.event) line a.place
Says line (Look n) = Names (codes "look ") line n

-- an answer is the request that the line says, none where it says none
abbrev pub SaysRequest : List ℕ → Option Request → Type 0
SaysRequest line r = MatchOption r ((q : Request) → Says line q → ⊥) (λ q. Says line q)

-- an answer is the call of this event that the line says, none where it says none
abbrev pub SaysCall : Event → List ℕ → Option Request → Type 0
SaysCall e line r = MatchOption r ((n : ℕ) → Names (event_words e) line n → ⊥) (λ q. Says line q)

-- no line says two requests
abbrev pub OneRequest : Type 0
OneRequest = (line : List ℕ) (q s : Request) → Says line q → Says line s → q ≡ s
