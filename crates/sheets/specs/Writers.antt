-- What a writer does to the buffer that it is lent.
use Rattle.std.specs.Prelude.{◌≡◌, ℕ, ◌+◌, ◌≤◌, List, length}
use Rattle.sheets.specs.declared.writer.Writer.{Writer}
use Rattle.sheets.specs.Writing.{Wrote}

-- so many bytes fit behind what is written
abbrev pub Room : Writer → ℕ → Type 0
Room w n = w.at + n ≤ length w.out.now

-- the bytes are written behind what was written, into the same buffer, which has room for them
pub record Writes (old : Writer) (bytes : List ℕ) (new : Writer) : Type 0 where
  pub fits : Room old (length bytes)
  pub wrote : Wrote old.out.now old.at bytes new.out.now new.at
  pub long : length new.out.now ≡ length old.out.now
  pub lent : new.out.ghost_name ≡ old.out.ghost_name

-- the place goes on, and the buffer is as it was
pub record Skips (old : Writer) (n : ℕ) (new : Writer) : Type 0 where
  pub place : new.at ≡ old.at + n
  pub same : new.out ≡ old.out
