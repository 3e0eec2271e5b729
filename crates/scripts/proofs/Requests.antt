-- Which request a line says.
use Rattle.std.proofs.Common.{◌≡◌, ℕ, List, codes, Some, None, Option, MatchOption}
use Rattle.cards.specs.declared.request.Request.{Request}
use Rattle.cards.specs.declared.request.Request.TheVariants.{Call, Look}
use Rattle.cards.specs.declared.state.Event.{Event}
use Rattle.cards.specs.declared.state.Event.TheVariants.{Begin, Finish, PutBack}
use Rattle.scripts.specs.Lines.{Names, Says, SaysRequest, event_words}

-- no place is named behind these words
abbrev pub Without : List ℕ → List ℕ → Type 0
Without words line = (n : ℕ) → Names words line n → ⊥

no_call : (line : List ℕ) (n : ℕ) → Without (codes "begin ") line → Without (codes "finish ") line → Without (codes "put back ") line → (e : Event) → Names (event_words e) line n → ⊥
no_call line n b f p Begin h = b n h
no_call line n b f p Finish h = f n h
no_call line n b f p PutBack h = p n h

pub says_none : (line : List ℕ) → Without (codes "begin ") line → Without (codes "finish ") line → Without (codes "put back ") line → Without (codes "look ") line → (q : Request) → Says line q → ⊥
says_none line b f p l (Call a) h = no_call line a.place b f p a.event h
says_none line b f p l (Look n) h = l n h

-- a request that the line says, or else a fact of why there is none
abbrev pub Found : List ℕ → Type 0 → Option Request → Type 0
Found line none r = MatchOption r none (λ q. Says line q)

-- an answer, and another one where the first finds none
pub found_or : (line : List ℕ) (r s : Option Request) (N M A : Type 0) → Found line N r → MatchOption r A (λ q. s ≡ Some q) → (A → Found line M s) → Found line (N × M) s
found_or line None None N M A n a f = (n, f a)
found_or line None (Some q) N M A n a f = f a
found_or line (Some q) s N M A n a f = rw a n

pub found_all : (line : List ℕ) (r : Option Request)
    → Found line (((Without (codes "begin ") line × Without (codes "finish ") line) × Without (codes "put back ") line) × Without (codes "look ") line) r → SaysRequest line r
found_all line None n = says_none line n.0.0.0 n.0.0.1 n.0.1 n.1
found_all line (Some q) n = n
