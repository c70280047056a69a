-- Showing: what a call shows of an answer, and what it tells where there is none.
-- Source: this project's own; docs/commands/calls.md, "What it says".
use Rattle.std.specs.Prelude.{◌≡◌, ◌⊎◌, ℕ, ◌==◌, List, ◌∷◌, Bool, not, ◌&&◌, ◌||◌, if◌then◌else◌, Option, Some, None, Result, Ok, Err, bytes_eq, codes, length}
use Rattle.agent_control.specs.{Replies.lines_text, declared.reply.ControlReply.ControlReply}
use Rattle.agent_control.specs.declared.reply.ControlReply.TheVariants as replies
use Rattle.base_device.specs.Seen.{Change}
use Rattle.program_report.specs.{FaultLine.fault_line, Told.Reports, declared.stop.Stop.Stop}
use Rattle.program_report.specs.Sent.{IsAll, IsUntouched, SendsText}
use Rattle.program_calls.specs.{Asking.is_health, Ending.ended_of, Hearing.HearsReply, Lines.TellsOf, Lines.call_lines, declared.ask.CallWords.CallWords, declared.call.AgentCall.AgentCall, declared.ended.Ended.Ended}
use Rattle.program_calls.specs.{declared.fault.CallFault.CallFault}
use Rattle.program_calls.specs.declared.ended.Ended.TheVariants as endings
use Rattle.program_calls.specs.declared.fault.CallFault.TheVariants as faults

-- ---- an answer

abbrev pub kept_text : List ℕ
kept_text = codes "every needed entry is kept\n"

-- the same of an agent whose state folder cannot be used
abbrev pub kept_until_restart_text : List ℕ
kept_until_restart_text = codes "every needed entry is kept\nchanges hold until a restart only: the state folder cannot be used\n"

-- whether the lines of a health name no entry
unfoldable pub names_no_entry : List ℕ → Bool
names_no_entry lines = (length lines == 0) || (bytes_eq lines kept_text || bytes_eq lines kept_until_restart_text)

-- a health without lines is shown as one that says so
abbrev pub shown_text : CallWords → List ℕ → List ℕ
shown_text ask lines = if is_health ask && (length lines == 0) then kept_text else lines

abbrev pub ended_by : CallWords → List ℕ → Ended
ended_by ask lines = if is_health ask && not (names_no_entry lines) then endings.Refused else endings.Done

-- the lines are shown whole, and nothing is told; or only a front of them, and why is told
abbrev pub PrintsLines : AgentCall → List ℕ → Ended → Change → Change → Type 0
PrintsLines call lines ended out errors =
    (IsAll (shown_text call.ask lines) out × IsUntouched errors × (ended ≡ ended_by call.ask lines))
    ⊎ ((stop : Stop) × (SendsText (Err stop) (shown_text call.ask lines) out × Reports (fault_line call.program.now stop) errors × (ended ≡ ended_of stop)))

-- ---- none

-- none where memory was wanting
unfoldable pub fault_words : CallFault → Option (List ℕ)
fault_words faults.NotSent = Some (codes "the agent did not take the request")
fault_words faults.NoAnswer = Some (codes "no answer")
fault_words faults.LongAnswer = Some (codes "the answer is too long: over 4194304 bytes, or 4096 reads")
fault_words faults.CutAnswer = Some (codes "the answer is cut short")
fault_words faults.Memory = None

-- ---- both

-- what is shown and told, by the call and the answer alone
abbrev pub ShowsAnswer : AgentCall → Result ControlReply CallFault → Ended → Change → Change → Type 0
ShowsAnswer call (Ok (replies.Done lines)) ended out errors = PrintsLines call (lines_text lines) ended out errors
ShowsAnswer call (Ok (replies.Refused why more)) ended out errors = IsUntouched out × Reports (call_lines call (why ∷ more)) errors × (ended ≡ endings.Refused)
ShowsAnswer call (Err fault) ended out errors = IsUntouched out × TellsOf call (fault_words fault) ended errors

-- a request is sent, and what is heard is shown
abbrev pub Talks : AgentCall → List ℕ → Ended → Change → Change → Change → Type 0
Talks call request ended line out errors = (heard : Result ControlReply CallFault) × (HearsReply request heard line × ShowsAnswer call heard ended out errors)
