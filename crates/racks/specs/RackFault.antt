-- The refusal of a rack: its number and the values that it names.
use Rattle.std.specs.Prelude.{ℕ, List, []}
use Rattle.refusals.specs.Notices.{Notice, Listed}
use Rattle.racks.specs.declared.rack_fault.RackFault.{RackFault}
use Rattle.racks.specs.declared.rack_fault.RackFault.TheVariants.{NoSuchRack}

pub record Refusal : Type 0 where
  pub number : ℕ
  pub values : List ℕ

abbrev pub refusal_of : RackFault → Refusal
refusal_of NoSuchRack = record { number = 20; values = [] }

-- what the fault tells, as every refusal tells it
abbrev pub rack_notice : RackFault → Notice
rack_notice f = record { number = (refusal_of f).number; values = (refusal_of f).values }

-- the fault stands on the list of refusals
abbrev pub Numbering : Type 0
Numbering = (f : RackFault) → Listed (rack_notice f)
