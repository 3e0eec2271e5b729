-- Replies and facts as bytes.
use Rattle.std.specs.Prelude.{◌≡◌, ℕ, ◌/◌, ◌%◌, List, [], ◌∷◌, ◌++◌}
use Rattle.facts.specs.Sets.{holds}
use Rattle.books.specs.Book.{Facts}
use Rattle.sheets.specs.Writers.{Writes}
use Rattle.sheets.specs.declared.writer.Writer.{Writer}
use Rattle.cards.specs.Faults.{run_notice}
use Rattle.cards.specs.declared.state.State.{State}
use Rattle.cards.specs.declared.state.State.TheVariants.{Waiting, InHand, Finished}
use Rattle.cards.specs.declared.request.Reply.{Reply}
use Rattle.cards.specs.declared.request.Reply.TheVariants.{Granted, Seen, Refused}
use Rattle.cards.specs.declared.fault.RunFault.{RunFault}
use Rattle.cards.specs.declared.fault.RunFault.TheVariants.{Plan, InHand as StepInHand, SpanTooSmall, NoPlace, WrongState, Unfinished, TooShort}

-- a number in eight bytes, the highest first; and a word of a set, the lowest first
abbrev pub eight : ℕ → List ℕ
eight n =
    n / 72057594037927936 % 256 ∷ n / 281474976710656 % 256 ∷ n / 1099511627776 % 256 ∷ n / 4294967296 % 256 ∷ n / 16777216 % 256 ∷ n / 65536 % 256 ∷ n / 256 % 256 ∷ n % 256 ∷ []

abbrev pub word_of : ℕ → List ℕ
word_of n =
    n % 256 ∷ n / 256 % 256 ∷ n / 65536 % 256 ∷ n / 16777216 % 256 ∷ n / 4294967296 % 256 ∷ n / 1099511627776 % 256 ∷ n / 281474976710656 % 256 ∷ n / 72057594037927936 % 256 ∷ []

-- the words of a set of facts, one after the other: fact p is bit p % 8 of byte p / 8
abbrev pub word_bytes : List ℕ → List ℕ
word_bytes [] = []
word_bytes (w ∷ ws) = word_of w ++ word_bytes ws

abbrev pub code_of_state : State → ℕ
code_of_state Waiting = 0
code_of_state InHand = 1
code_of_state Finished = 2

-- what a refused call names: 18 the lowest unfinished place, the others nothing
abbrev pub value_of : RunFault → ℕ
value_of (Unfinished u) = u
value_of (Plan f) = 0
value_of StepInHand = 0
value_of SpanTooSmall = 0
value_of NoPlace = 0
value_of WrongState = 0
value_of (TooShort e) = 0

abbrev six : List ℕ
six = 0 ∷ 0 ∷ 0 ∷ 0 ∷ 0 ∷ 0 ∷ []

-- a reply in 16 bytes
abbrev pub bytes_of_reply : Reply → List ℕ
bytes_of_reply Granted = 0 ∷ 0 ∷ 0 ∷ 0 ∷ 0 ∷ 0 ∷ 0 ∷ 0 ∷ 0 ∷ 0 ∷ six
bytes_of_reply (Seen step level state) =
    1 ∷ step / 256 % 256 ∷ step % 256 ∷ level / 256 % 256 ∷ level % 256 ∷ code_of_state state ∷ 0 ∷ 0 ∷ 0 ∷ 0 ∷ six
bytes_of_reply (Refused f) = 2 ∷ (run_notice f).number ∷ (eight (value_of f) ++ six)

-- a record is written: the reply, and the facts on the board
pub record RecordPut (old : Writer) (reply : Reply) (board : Facts) (new : Writer) : Type 0 where
  pub words : List ℕ
  pub facts : (q : ℕ) → holds words q ≡ board q
  pub writes : Writes old (bytes_of_reply reply ++ word_bytes words) new
