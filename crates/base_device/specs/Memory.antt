-- What the devices in memory hold, and what a call of a source in memory does.
use Rattle.std.specs.Prelude.{◌≡◌, ℕ, zero, suc, ◌+◌, ◌-◌, ◌/◌, ◌^◌, List, [], ◌∷◌, length, drop, min, max, Bool, true, false, Option, None, Some, Result, Ok, Err}
use Rattle.base_device.specs.{declared.fault.Failed.Failed, declared.fault.SinkFault.SinkFault, Failures.one_more, Seen.Input, Seen.Output, declared.limits.TheConstants.MOST_ROOM}
use Rattle.base_device.specs.declared.fault.SinkFault.TheVariants as faults

-- the calls that go well before the one that fails (none: no call fails), and the calls that failed so far
pub record Calls : Type 0 where
  pub before_failure : Option ℕ
  pub failures : ℕ

-- one call fewer before the one that fails
abbrev pub one_fewer : Option ℕ → Option ℕ
one_fewer None = None
one_fewer (Some n) = Some (n - 1)

-- a call fails where its turn has come, and no call after it; the others bring that turn nearer
abbrev pub IsCall : Bool → Calls → Calls → Type 0
IsCall false old new = (old.before_failure ≡ Some 0 → ⊥) × (new ≡ record { before_failure = one_fewer old.before_failure; failures = old.failures })
IsCall true old new = (old.before_failure ≡ Some 0) × (new ≡ record { before_failure = None; failures = one_more old.failures })

-- whether a sink answered that the call failed (a growth that is refused is no failure of the call)
abbrev pub is_failed : {X : Type 0} → Result X SinkFault → Bool
is_failed (Ok x) = false
is_failed (Err faults.Failed) = true
is_failed (Err faults.OutOfMemory) = false

-- the bytes that a source in memory has still to hand out, the lengths of the pieces to come, its calls, and how many reads
-- were made, up to the greatest number that is counted
pub record Supply : Type 0 where
  pub bytes : List ℕ
  pub pieces : List ℕ
  pub calls : Calls
  pub reads : ℕ

-- the most bytes that the next read hands out: the next piece's length, at least 1, and all that is left after the last
abbrev pub next_piece : List ℕ → ℕ → ℕ
next_piece [] left = left
next_piece (piece ∷ pieces) left = max piece 1

-- how many bytes the next read hands out where it offers so much room
abbrev pub handed_out : Supply → ℕ → ℕ
handed_out s room = min (min (length s.bytes) room) (next_piece s.pieces (length s.bytes))

-- how many reads hand out so many bytes, where each offers the most room: a piece each, and full rooms after the last
unfoldable pub reads_of : List ℕ → ℕ → ℕ
reads_of [] left = (left + (MOST_ROOM - 1)) / MOST_ROOM
reads_of (piece ∷ pieces) zero = 0
reads_of (piece ∷ pieces) (suc n) = reads_of pieces (suc n - min (max piece 1) MOST_ROOM) + 1

-- how many reads are needed: those that hand out bytes, and one for the end
abbrev pub reads_needed : Supply → ℕ
reads_needed s = reads_of s.pieces (length s.bytes) + 1

-- the input of a device that hands these out
abbrev pub input_of : Supply → Input
input_of s = record { remaining = Some s.bytes; reads_left = reads_needed s; reads_made = s.reads }

-- one read with so much room: the next bytes are handed out, or the call's turn to fail has come and no byte is lost
abbrev pub IsPieceRead : Result ℕ Failed → Supply → Supply → ℕ → Type 0
IsPieceRead (Ok n) old new room = (n ≡ handed_out old room) × (new.bytes ≡ drop n old.bytes) × (new.pieces ≡ drop 1 old.pieces)
IsPieceRead (Err fault) old new room = (new.bytes ≡ old.bytes) × (new.pieces ≡ old.pieces)

-- the bytes that a sink in memory collected, its calls, and whether it took nothing since the last flush that went well
pub record Collected : Type 0 where
  pub bytes : List ℕ
  pub calls : Calls
  pub flushed : Bool

-- the output of a device that collected these
abbrev pub output_of : Collected → Output
output_of s = record { written = Some s.bytes; is_flushed = s.flushed }

-- a source and a sink in memory, side by side
pub record Pair : Type 0 where
  pub source : Supply
  pub sink : Collected

-- the calls of both that failed, up to the greatest number that is counted
abbrev pub failures_of : Pair → ℕ
failures_of p = min (p.source.calls.failures + p.sink.calls.failures) (2 ^ 64 - 1)
