-- What there being a rack says of its loggers and its baths.
use Rattle.std.proofs.Common.{◌≡◌, ℕ, ◌*◌, ◌≤◌, true, ◌&&◌, leb, arith}
use Rattle.std.proofs.lemmas.Bool.{leb-true, and_parts}
use Rattle.std.proofs.lemmas.Nat.{mul-le}
use Rattle.racks.specs.Rack.{is_a_rack}

pub record Sizes (R B : ℕ) : Type 0 where
  pub logger : 1 ≤ R
  pub bath : 1 ≤ B
  pub pairs : R * B ≤ 128
  pub loggers : R ≤ 128
  pub baths : B ≤ 128

pub sizes : (R B : ℕ) → is_a_rack R B ≡ true → Sizes R B
sizes R B e =
    let h = and_parts (leb 1 R) (leb 1 B && leb (R * B) 128) e in
    let k = and_parts (leb 1 B) (leb (R * B) 128) h.1 in
    let logger = leb-true 1 R h.0 in
    let bath = leb-true 1 B k.0 in
    let pairs = leb-true (R * B) 128 k.1 in
    record {
      logger = logger;
      bath = bath;
      pairs = pairs;
      loggers = omega (arith, mul-le R 1 R B (omega arith) bath);
      baths = omega (arith, mul-le 1 B R B logger (omega arith));
    }
