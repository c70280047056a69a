-- Languages: the two in which an inventory may be written. The strict one writes all that a plan needs: each duration as a
-- number, each end and each increment. The full one, which is read, takes all of that in the same meaning, and besides durations
-- with units, needs that are `always`, secrets by files, and tables without what a lookup tells.
-- Source: this project's own.
use Rattle.std.specs.Prelude.{Bool, true, false}

pub data Language : Type 0 where
  strict : Language
  full : Language

abbrev pub is_strict : Language → Bool
is_strict strict = true
is_strict full = false
