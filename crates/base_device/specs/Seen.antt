-- Seen: what contracts see of a device, in one record.
use Rattle.std.specs.Prelude.{ℕ, List, Bool, true, Option, None}
use Rattle.std.specs.Io.KnownBytes.{Appends}
use Rattle.base_device.specs.Front.{AppendsFront}

-- what it hands out: the bytes to come, where they are known; how many reads are needed at most until it has answered its
-- end, where each offers enough room; and how many were made, up to the greatest `u64`, where its bytes are known
pub record Input : Type 0 where
  pub remaining : Option (List ℕ)
  pub reads_left : ℕ
  pub reads_made : ℕ

-- what it takes: the bytes that it was given, where they are known, and whether nothing was taken since the last flush that
-- went well
pub record Output : Type 0 where
  pub written : Option (List ℕ)
  pub is_flushed : Bool

-- what it hands out, what it takes, and how many of its calls failed, up to the greatest `u64`
pub record Seen : Type 0 where
  pub input : Input
  pub output : Output
  pub failed_calls : ℕ

-- a device before and after what was done with it, and whether devices of its type keep what they are given in memory
pub record Change : Type 0 where
  pub old : Seen
  pub new : Seen
  pub is_in_memory : Bool

abbrev pub change : Bool → Seen → Seen → Change
change is_in_memory old new = record { old = old; new = new; is_in_memory = is_in_memory }

-- what the device was given between the two states is this text, where it is known
abbrev pub Receives : List ℕ → Change → Type 0
Receives text out = Appends out.old.output.written out.new.output.written text

-- it is a front of this text
abbrev pub ReceivesFront : List ℕ → Change → Type 0
ReceivesFront text out = AppendsFront out.old.output.written out.new.output.written text

-- a device that hands out nothing that is known
abbrev pub no_input : Input
no_input = record { remaining = None; reads_left = 0; reads_made = 0 }

-- a device that takes nothing that is known
abbrev pub no_output : Output
no_output = record { written = None; is_flushed = true }

-- a device outside: only the count of its failures is known
abbrev pub outside_device : ℕ → Seen
outside_device failures = record { input = no_input; output = no_output; failed_calls = failures }
