-- Ends: how `serve` ends, and what it has told by then on the writer for faults.
-- Source: this project's own.
use Rattle.base_device.specs.Seen.{Change}
use Rattle.program_report.specs.{declared.exit.Exit.Exit, Sent.IsUntouched}
use Rattle.program_report.specs.declared.exit.Exit.TheVariants as exits
use Rattle.agent_system.specs.Refusals.{RefusesStart}

-- the end of `serve`: after the last turn, and then nothing was told; or a start that is refused
abbrev pub EndsServe : Exit → Change → Type 0
EndsServe exits.Done errors = IsUntouched errors
EndsServe exit errors = RefusesStart exit errors
