-- The bit board and the tally board are lawful: the proofs that their impls hand over.
use Rattle.std.specs.Prelude.{◌≡◌, ℕ, not, List, length, ◌==◌}
use Rattle.std.proofs.Common.{ap, arith, lit≤}
use Rattle.std.proofs.lemmas.List.{get_or_past}
use Rattle.facts.specs.Sets.{holds}
use Rattle.facts.proofs.Words.{holds_past}
use Rattle.boards.specs.Board.{LawfulBoard, in_cells}

pub bits_lawful : (words : List ℕ) → length words ≡ 16 → LawfulBoard 1024 (holds words)
bits_lawful words e = record { small = lit≤ tt; above = λ p h. holds_past words p (omega arith) }

pub cells_lawful : (cells : List ℕ) → length cells ≡ 512 → LawfulBoard 512 (in_cells cells)
cells_lawful cells e = record { small = lit≤ tt; above = λ p h. ap (λ n. not (n == 0)) (get_or_past cells p 0 (omega arith)) }
