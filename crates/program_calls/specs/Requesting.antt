-- Requesting: what a call makes of standard input, before it has a connection.
-- Source: this project's own.
use Rattle.std.specs.Prelude.{◌≡◌, ℕ, ◌≤◌, List, [], Bool, true, false, IfOk, IfSome, OnOk, Result, Ok, Err, length}
use Rattle.std.specs.Io.KnownBytes.{IsAtEnd}
use Rattle.base_device.specs.{Failures.CountsInput, Seen.Change, Whole.IsReadToEnd, Whole.MakesAtMost, declared.fault.InputFault.InputFault, declared.limits.TheConstants.MOST_READS}
use Rattle.agent_control.specs.{Replies.request_fault_text, declared.fault.RequestFault.RequestFault}
use Rattle.program_report.specs.{Exits.stop_of_input, FaultLine.fault_line, Sent.IsUntouched, Told.Reports}
use Rattle.program_report.specs.declared.stop.Stop.TheVariants as stops
use Rattle.program_calls.specs.{Asking.line_for_ask, Asking.takes_input, Ending.ended_of, Lines.call_line, declared.ask.CallWords.CallWords, declared.call.AgentCall.AgentCall, declared.ended.Ended.Ended}
use Rattle.program_calls.specs.{declared.limits.TheConstants.INPUT_MAX}
use Rattle.program_calls.specs.declared.ended.Ended.TheVariants as endings

-- a device was read to its end, up to so many bytes and reads, and gave these bytes, or failed so
pub record ReadsDevice (max : ℕ) (read : Result (List ℕ) InputFault) (device : Change) : Type 0 where
  pub whole : IfSome device.old.input.remaining (λ bytes. IsReadToEnd max bytes device.old.input.reads_left device.new.input.reads_left read)
  pub short : IfOk read (λ text. length text ≤ max)
  pub end : OnOk read (IsAtEnd device.new.input.remaining)
  pub few : MakesAtMost MOST_READS device.old.input device.new.input
  pub count : CountsInput read device.old.failed_calls device.new.failed_calls

-- where standard input is taken, it is read and nothing is written to it; else it is left alone
abbrev pub TakesIf : Bool → Result (List ℕ) InputFault → Change → Type 0
TakesIf true read input = ReadsDevice INPUT_MAX read input × (input.new.output ≡ input.old.output)
TakesIf false read input = (read ≡ Ok []) × IsUntouched input

abbrev pub TakesInput : CallWords → Result (List ℕ) InputFault → Change → Type 0
TakesInput ask read input = TakesIf (takes_input ask) read input

-- the line that is made of it, and nothing is told; or why there is none is told, without a word of what was read
abbrev pub MakesLine : AgentCall → Result (List ℕ) InputFault → Result (List ℕ) Ended → Change → Type 0
MakesLine call (Ok text) (Ok line) errors = (line_for_ask call.ask text ≡ Ok line) × IsUntouched errors
MakesLine call (Ok text) (Err endings.Refused) errors = (fault : RequestFault) × ((line_for_ask call.ask text ≡ Err fault) × Reports (call_line call (request_fault_text fault)) errors)
MakesLine call (Ok text) (Err endings.Memory) errors = Reports (fault_line call.program.now stops.Memory) errors
MakesLine call (Ok text) (Err ended) errors = ⊥
MakesLine call (Err fault) (Ok line) errors = ⊥
MakesLine call (Err fault) (Err ended) errors = (ended ≡ ended_of (stop_of_input fault)) × Reports (fault_line call.program.now (stop_of_input fault)) errors

-- the line that a call sends, or how it ended
abbrev pub CallAsks : AgentCall → Result (List ℕ) Ended → Change → Change → Type 0
CallAsks call answer input errors = (read : Result (List ℕ) InputFault) × (TakesInput call.ask read input × MakesLine call read answer errors)
