-- The words for the facts, the steps and the fault of a rack.
use Rattle.std.specs.Prelude.{ℕ, List, ◌++◌, codes, decimal}
use Rattle.racks.specs.RackFault.{refusal_of}
use Rattle.racks.specs.declared.rack_fault.RackFault.{RackFault}
use Rattle.racks.specs.declared.rack_names.RackFact.{RackFact}
use Rattle.racks.specs.declared.rack_names.RackFact.TheVariants.{InBath, OnShelf, Settled, ReadIn}
use Rattle.racks.specs.declared.rack_names.RackStep.{RackStep}
use Rattle.racks.specs.declared.rack_names.RackStep.TheVariants.{Put, TakeOut, Read, Settle}

abbrev pub fact_text : RackFact → List ℕ
fact_text (InBath l b) = codes "logger " ++ (decimal l ++ (codes " in bath " ++ decimal b))
fact_text (OnShelf l) = codes "logger " ++ (decimal l ++ codes " on the shelf")
fact_text (Settled b) = codes "bath " ++ (decimal b ++ codes " settled")
fact_text (ReadIn l b) = codes "logger " ++ (decimal l ++ (codes " read in bath " ++ decimal b))

abbrev pub step_text : RackStep → List ℕ
step_text (Put l b) = codes "put logger " ++ (decimal l ++ (codes " in bath " ++ decimal b))
step_text (TakeOut l b) = codes "take logger " ++ (decimal l ++ (codes " out of bath " ++ decimal b))
step_text (Read l b) = codes "read logger " ++ (decimal l ++ (codes " in bath " ++ decimal b))
step_text (Settle b) = codes "settle bath " ++ decimal b

-- the fault, by the refusal's number
abbrev pub fault_text : RackFault → List ℕ
fault_text f = codes "refused " ++ decimal (refusal_of f).number
