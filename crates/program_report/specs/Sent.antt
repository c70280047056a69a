-- Sent: what a device was sent between two of its states.
use Rattle.std.specs.Prelude.{◌≡◌, ℕ, IsTrue, ◌⊎◌, List, Result, Ok, Err}
use Rattle.base_device.specs.{Failures.HasFailed, Failures.one_more, declared.fault.SinkFault.SinkFault}
use Rattle.base_device.specs.Seen.{Change, Receives, ReceivesFront}
use Rattle.base_device.specs.declared.fault.SinkFault.TheVariants as sink
use Rattle.program_report.specs.declared.stop.Stop.{Stop}
use Rattle.program_report.specs.declared.stop.Stop.TheVariants as stops

-- this text, and nothing else, was written, and all of it was flushed
abbrev pub IsAll : List ℕ → Change → Type 0
IsAll text out = Receives text out × IsTrue out.new.output.is_flushed

-- nothing was written, flushed, read or tried
abbrev pub IsUntouched : Change → Type 0
IsUntouched out = out.new ≡ out.old

-- the device failed, or wanted memory, which one in memory alone does
abbrev pub GaveUp : Change → Type 0
GaveUp out = HasFailed out.old.failed_calls out.new.failed_calls ⊎ IsTrue out.is_in_memory

-- a text that was sent whole, or why only a front of it was
abbrev pub SendsText : Result (Unit {0}) Stop → List ℕ → Change → Type 0
SendsText (Ok u) text out = IsAll text out
SendsText (Err stops.Write) text out = HasFailed out.old.failed_calls out.new.failed_calls × ReceivesFront text out
SendsText (Err stops.Memory) text out = IsTrue out.is_in_memory × ReceivesFront text out
SendsText (Err stop) text out = ⊥

-- a piece that was written whole, or why only a front of it was
abbrev pub Puts : Result (Unit {0}) SinkFault → List ℕ → Change → Type 0
Puts (Ok u) piece out = Receives piece out × (out.new.failed_calls ≡ out.old.failed_calls)
Puts (Err sink.Failed) piece out = ReceivesFront piece out × (out.new.failed_calls ≡ one_more out.old.failed_calls)
Puts (Err sink.OutOfMemory) piece out = ReceivesFront piece out × (out.new.failed_calls ≡ out.old.failed_calls) × IsTrue out.is_in_memory
