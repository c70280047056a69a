-- A reader or writer of the standard library with the count of its calls that failed.
use Rattle.std.specs.Prelude.{ℕ, Bool}

-- the reader or writer, how many of its calls failed, and whether a flush went well and nothing was taken since
pub record Tally (S : Type 0) : Type 0 where
  pub inner : S
  pub failures : ℕ
  pub flushed : Bool
