-- From: a run over files, by their paths.
-- Source: this project's own.
use Rattle.std.specs.Prelude.{◌≡◌, ◌⊎◌, ℕ, List, Option, Ok, Err}
use Rattle.base_device.specs.{Seen.Change, declared.fault.InputFault.InputFault}
use Rattle.base_files.specs.Files.{FileIsRead}
use Rattle.program_report.specs.{declared.exit.Exit.Exit, Exits.exit_of, Exits.stop_of_input, Sent.IsUntouched, Told.Reports, FaultLine.line_of_stop}

-- a run over a file: one over its bytes; or it was not read, which was told, and nothing was written
abbrev pub RunFrom : Option (List ℕ) → ℕ → (List ℕ → Exit → Change → Change → Type 0) → Exit → Change → Change → Type 0
RunFrom known max Over exit out errors =
    ((bytes : List ℕ) × FileIsRead known max (Ok bytes) × Over bytes exit out errors)
    ⊎ ((fault : InputFault) × FileIsRead known max (Err fault) × (exit ≡ exit_of (stop_of_input fault)) × IsUntouched out × Reports (line_of_stop (stop_of_input fault)) errors)
