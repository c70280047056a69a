-- Ending: how a call ends.
-- Source: this project's own; docs/commands/calls.md.
use Rattle.std.specs.Prelude.{ℕ}
use Rattle.program_report.specs.declared.stop.Stop.{Stop}
use Rattle.program_report.specs.declared.stop.Stop.TheVariants as stops
use Rattle.program_calls.specs.declared.ended.Ended.{Ended}
use Rattle.program_calls.specs.declared.ended.Ended.TheVariants as endings

abbrev pub ended_code : Ended → ℕ
ended_code endings.Done = 0
ended_code endings.Refused = 1
ended_code endings.Device = 6
ended_code endings.Memory = 7

-- where a device or lack of memory stopped it
abbrev pub ended_of : Stop → Ended
ended_of stops.Memory = endings.Memory
ended_of stop = endings.Device
