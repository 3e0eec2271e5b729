-- Text put into a lent buffer as far as there is room, so that it can be measured before it is written.
use Rattle.std.specs.Prelude.{◌≡◌, ℕ, ◌+◌, ◌≤◌, List, length}
use Rattle.sheets.specs.Writing.{written}
use Rattle.sheets.specs.declared.writer.Writer.{Writer}

-- next is the place behind the bytes ys, were they written at a place; where the buffer has room for them, they are
pub record Puts (before : List ℕ) (at : ℕ) (ys after : List ℕ) (next : ℕ) : Type 0 where
  pub place : next ≡ at + length ys
  pub bytes : at + length ys ≤ length before → after ≡ written before at ys

-- a writer puts the bytes ys, into the same buffer
pub record PutsText (old : Writer) (ys : List ℕ) (new : Writer) : Type 0 where
  pub puts : Puts old.out.now old.at ys new.out.now new.at
  pub long : length new.out.now ≡ length old.out.now
  pub lent : new.out.ghost_name ≡ old.out.ghost_name
