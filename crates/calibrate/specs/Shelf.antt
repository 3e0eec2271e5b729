-- Loggers on the shelf.
use Rattle.std.specs.Prelude.{ℕ, ◌+◌, ◌*◌, Bool, ◌&&◌, nat_le, nat_lt}

-- q is the shelf fact of one of the first n loggers, on a rack of R loggers and B baths
abbrev pub shelved : ℕ → ℕ → ℕ → ℕ → Bool
shelved B R n q = nat_le (R * B) q && nat_lt q (R * B + n)
