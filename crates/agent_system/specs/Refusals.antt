-- Refusals: how a start of `serve` is refused, and what it has told by then on the writer for faults.
-- Source: this project's own.
use Rattle.std.specs.Prelude.{◌≡◌, Option, Some, None, Result, Ok, Err}
use Rattle.base_device.specs.Seen.{Change}
use Rattle.program_report.specs.{declared.exit.Exit.Exit, declared.stop.Stop.Stop, Exits.exit_of, Sent.IsUntouched, Told.Reports, FaultLine.line_of_stop}
use Rattle.program_report.specs.declared.exit.Exit.TheVariants as exits
use Rattle.program_report.specs.declared.stop.Stop.TheVariants as stops

-- a start that is refused: the file is no inventory, or cannot be served so; it cannot be read; or memory is wanting, which is all
-- that is told then
abbrev pub RefusesStart : Exit → Change → Type 0
RefusesStart exits.Inventory errors = Unit {0}
RefusesStart exits.Device errors = Unit {0}
RefusesStart exits.Memory errors = Reports (line_of_stop stops.Memory) errors
RefusesStart exit errors = ⊥

-- the exit of this stop; and where that is want of memory, its line is all that is told
abbrev pub IsToldOf : Stop → Exit → Change → Type 0
IsToldOf stop exit errors = (exit ≡ exit_of stop) × ((exit ≡ exits.Memory) → Reports (line_of_stop stop) errors)

-- there is something to serve, and nothing was told; or the start is refused
abbrev pub GivesOrRefuses : {X : Type 0} → Result X Exit → Change → Type 0
GivesOrRefuses (Ok x) errors = IsUntouched errors
GivesOrRefuses (Err exit) errors = RefusesStart exit errors

-- the start is refused; or it is not, and nothing was told
abbrev pub RefusesIf : Option Exit → Change → Type 0
RefusesIf None errors = IsUntouched errors
RefusesIf (Some exit) errors = RefusesStart exit errors
