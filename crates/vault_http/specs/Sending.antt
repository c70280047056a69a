-- What a sink's fault is to who sends a message, and the count of failures over the sending.
use Rattle.std.specs.Prelude.{◌≡◌, ℕ, Result, Ok, Err}
use Rattle.base_device.specs.{declared.fault.SinkFault.SinkFault, Failures.one_more}
use Rattle.base_device.specs.declared.fault.SinkFault.TheVariants as sink
use Rattle.vault_http.specs.declared.writing.SendFault.{SendFault}
use Rattle.vault_http.specs.declared.writing.SendFault.TheVariants as faults

-- a failed write is `WriteFailed`
abbrev pub send_fault : SinkFault → SendFault
send_fault sink.Failed = faults.WriteFailed
send_fault sink.OutOfMemory = faults.OutOfMemory

-- one failure more where a write failed, and else none
abbrev pub CountsSend : {X : Type 0} → Result X SendFault → ℕ → ℕ → Type 0
CountsSend (Ok x) before now = now ≡ before
CountsSend (Err faults.WriteFailed) before now = now ≡ one_more before
CountsSend (Err faults.OutOfMemory) before now = now ≡ before
