-- The bytes of a number say it.
use Rattle.std.proofs.Common.{◌≡◌, ℕ, List, ◌++◌, arith}
use Rattle.sheets.specs.Fields.{be16, be32, be64, two, four, eight}

pub two_read : (n : ℕ) (rest : List ℕ) → be16 (two n ++ rest) 0 ≡ n
two_read n rest = omega arith

pub four_read : (n : ℕ) (rest : List ℕ) → be32 (four n ++ rest) 0 ≡ n
four_read n rest = omega arith

pub eight_read : (n : ℕ) (rest : List ℕ) → be64 (eight n ++ rest) 0 ≡ n
eight_read n rest = omega arith
