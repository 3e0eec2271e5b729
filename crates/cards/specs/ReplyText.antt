-- A reply in words.
use Rattle.std.specs.Prelude.{ℕ, List, ◌++◌, codes, decimal}
use Rattle.cards.specs.FaultText.{text_of_run_fault}
use Rattle.cards.specs.declared.state.State.{State}
use Rattle.cards.specs.declared.state.State.TheVariants.{Waiting, InHand, Finished}
use Rattle.cards.specs.declared.request.Reply.{Reply}
use Rattle.cards.specs.declared.request.Reply.TheVariants.{Granted, Seen, Refused}

abbrev pub text_of_state : State → List ℕ
text_of_state Waiting = codes "waiting"
text_of_state InHand = codes "in hand"
text_of_state Finished = codes "finished"

-- granted, how the place stands, or the refusal's own text
abbrev pub text_of_reply : Reply → List ℕ
text_of_reply Granted = codes "granted"
text_of_reply (Seen step level state) = codes "step " ++ (decimal step ++ (codes " level " ++ (decimal level ++ (codes " " ++ text_of_state state))))
text_of_reply (Refused fault) = text_of_run_fault fault
