-- Torn: what a crash makes of a call that was under way.
-- Source: this project's own; POSIX, "fsync" and "rename", for what is not promised.
use Rattle.std.specs.Prelude.{◌≡◌, ◌⊎◌, ℕ, ◌+◌, ◌≤◌, max, List, length, take, drop, Option, None, Some}
use Rattle.base_disk.specs.Image.{File, Image, with_file_at, SameElsewhere}

-- after a write of n bytes: any bytes in the range and past the old end, the same elsewhere
pub record Torn (at n : ℕ) (old new : List ℕ) : Type 0 where
  pub before : take at new ≡ take at old
  pub after : drop (at + n) new ≡ drop (at + n) old
  pub no_shorter : length old ≤ length new
  pub no_longer : length new ≤ max (length old) (at + n)

-- a file keeps its mode while its bytes are torn, and one that is not there stays so
abbrev pub IsTornFile : (List ℕ → List ℕ → Type 0) → Option File → Option File → Type 0
IsTornFile step None None = Unit {0}
IsTornFile step None (Some new) = ⊥
IsTornFile step (Some old) None = ⊥
IsTornFile step (Some old) (Some new) = (new.mode ≡ old.mode) × step old.bytes new.bytes

-- the file at this path is torn, and the others are whole
pub record Tears (path : List ℕ) (step : List ℕ → List ℕ → Type 0) (old new : Image) : Type 0 where
  pub elsewhere : SameElsewhere path old new
  pub there : IsTornFile step (old path) (new path)

-- a file is moved to this path: it is there whole, or what was there is
abbrev pub MovesFile : List ℕ → File → Image → Image → Type 0
MovesFile path file old new = (new ≡ old) ⊎ (new ≡ with_file_at path file old)
