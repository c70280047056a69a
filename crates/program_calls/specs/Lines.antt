-- Lines: what a call says to people when it fails.
-- Source: this project's own.
use Rattle.std.specs.Prelude.{◌≡◌, ℕ, List, [], ◌∷◌, ◌++◌, Option, Some, None}
use Rattle.base_device.specs.Seen.{Change}
use Rattle.program_report.specs.{FaultLine.before_colon, FaultLine.fault_line, Told.Reports}
use Rattle.program_report.specs.declared.stop.Stop.TheVariants as stops
use Rattle.program_calls.specs.{Asking.command_word, declared.call.AgentCall.AgentCall, declared.ended.Ended.Ended}
use Rattle.program_calls.specs.declared.ended.Ended.TheVariants as endings

-- the program and the command
unfoldable pub call_front : AgentCall → List ℕ
call_front call = before_colon call.program.now ++ before_colon (command_word call.ask)

-- the socket and what is said of it
unfoldable pub socket_rest : List ℕ → List ℕ → List ℕ
socket_rest socket words = before_colon socket ++ (words ++ 10 ∷ [])

-- `PROGRAM: COMMAND: WHY`
unfoldable pub call_line : AgentCall → List ℕ → List ℕ
call_line call words = call_front call ++ (words ++ 10 ∷ [])

-- a line for each reason
abbrev pub call_lines : AgentCall → List (List ℕ) → List ℕ
call_lines call [] = []
call_lines call (why ∷ more) = call_line call why ++ call_lines call more

-- `PROGRAM: COMMAND: SOCKET: WHY`
unfoldable pub socket_line : AgentCall → List ℕ → List ℕ
socket_line call words = call_front call ++ socket_rest call.socket.now words

-- what went wrong at the socket is told; where that was memory, it is told as leasekeep tells it
abbrev pub TellsOf : AgentCall → Option (List ℕ) → Ended → Change → Type 0
TellsOf call None ended errors = (ended ≡ endings.Memory) × Reports (fault_line call.program.now stops.Memory) errors
TellsOf call (Some words) ended errors = (ended ≡ endings.Refused) × Reports (socket_line call words) errors
