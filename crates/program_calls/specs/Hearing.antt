-- Hearing: what is sent over a connection, and what is made of the bytes that come.
-- Source: this project's own; what an answer is is agent_control's.
use Rattle.std.specs.Prelude.{◌≡◌, ◌⊎◌, ℕ, IsTrue, List, [], ◌∷◌, Option, Some, None, Result, Ok, Err}
use Rattle.base_device.specs.{Failures.HasFailed, Seen.Change, Seen.ReceivesFront, declared.fault.InputFault.InputFault, declared.fault.SinkFault.SinkFault}
use Rattle.base_device.specs.declared.fault.InputFault.TheVariants as inputs
use Rattle.base_device.specs.declared.fault.SinkFault.TheVariants as sink
use Rattle.agent_control.specs.{Replies.reply_in_text, declared.reply.ControlReply.ControlReply}
use Rattle.program_report.specs.Sent.{IsAll}
use Rattle.program_calls.specs.{Requesting.ReadsDevice, declared.fault.CallFault.CallFault, declared.limits.TheConstants.ANSWER_MAX}
use Rattle.program_calls.specs.declared.fault.CallFault.TheVariants as faults

-- ---- sending

abbrev pub fault_of_write : SinkFault → CallFault
fault_of_write sink.Failed = faults.NotSent
fault_of_write sink.OutOfMemory = faults.Memory

-- the request was sent whole, and nothing else; or the connection gave up after a front of it; nothing was read
abbrev pub IsSentOrGivenUp : Result (Unit {0}) SinkFault → List ℕ → Change → Type 0
IsSentOrGivenUp (Ok u) request line = IsAll request line × (line.new.input ≡ line.old.input) × (line.new.failed_calls ≡ line.old.failed_calls)
IsSentOrGivenUp (Err sink.Failed) request line = ReceivesFront request line × (line.new.input ≡ line.old.input) × HasFailed line.old.failed_calls line.new.failed_calls
IsSentOrGivenUp (Err sink.OutOfMemory) request line = ReceivesFront request line × (line.new.input ≡ line.old.input) × IsTrue line.is_in_memory

-- ---- the answer

abbrev pub fault_of_read : InputFault → CallFault
fault_of_read inputs.ReadFailed = faults.NoAnswer
fault_of_read inputs.TooLong = faults.LongAnswer
fault_of_read inputs.OutOfMemory = faults.Memory

abbrev pub or_cut : Option ControlReply → Result ControlReply CallFault
or_cut None = Err faults.CutAnswer
or_cut (Some reply) = Ok reply

-- the answer that all bytes are which came
abbrev pub heard_of : List ℕ → Result ControlReply CallFault
heard_of [] = Err faults.NoAnswer
heard_of (byte ∷ bytes) = or_cut (reply_in_text (byte ∷ bytes))

abbrev pub heard_of_read : Result (List ℕ) InputFault → Result ControlReply CallFault
heard_of_read (Ok bytes) = heard_of bytes
heard_of_read (Err fault) = Err (fault_of_read fault)

-- the connection was read to its end, and this is the answer, unless memory was refused
abbrev pub ListensToEnd : Result ControlReply CallFault → Change → Type 0
ListensToEnd heard line = (came : Result (List ℕ) InputFault) × (ReadsDevice ANSWER_MAX came line × ((heard_of_read came ≡ heard) ⊎ (heard ≡ Err faults.Memory)))

-- ---- both

-- the request was not sent whole, and nothing was read
abbrev pub IsUnsent : List ℕ → Result ControlReply CallFault → Change → Type 0
IsUnsent request heard line = (fault : SinkFault) × ((heard ≡ Err (fault_of_write fault)) × IsSentOrGivenUp (Err fault) request line)

-- the request was not sent whole; or it was, and then the answer was read
abbrev pub HearsReply : List ℕ → Result ControlReply CallFault → Change → Type 0
HearsReply request heard line = IsUnsent request heard line ⊎ (IsAll request line × ListensToEnd heard line)
