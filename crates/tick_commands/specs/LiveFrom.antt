-- The command `run` over its file: a live run over the bytes of an inventory.
-- Source: this project's own.
use Rattle.std.specs.Prelude.{◌≡◌, ◌⊎◌, ℕ, List, Option, Ok, Err}
use Rattle.base_device.specs.{Seen.Change, declared.fault.InputFault.InputFault}
use Rattle.vault_exchange.specs.Exchanges.{Behind}
use Rattle.vault_inventory.specs.declared.limits.TheConstants.{MOST_INVENTORY}
use Rattle.program_report.specs.{declared.exit.Exit.Exit, Exits.exit_of, Exits.stop_of_input, Sent.IsUntouched, Told.Reports, FaultLine.line_of_stop}
use Rattle.tick_runs.specs.LiveRun.{LiveRun}
use Rattle.base_files.specs.Files.{FileIsRead}

-- the live run over the bytes of the file at a path, by what is known of it, whatever exchange names this port; or the file was not
-- read, which was told, and nothing was written, read of the events or asked
abbrev pub LiveFrom : Option (List ℕ) → ℕ → ℕ → Option Behind → Exit → Change → Change → Change → Option Behind → Type 0
LiveFrom known port start old exit fed out errors new =
    ((bytes : List ℕ) × FileIsRead known MOST_INVENTORY (Ok bytes) × LiveRun port bytes start old exit fed out errors new)
    ⊎ ((fault : InputFault) × FileIsRead known MOST_INVENTORY (Err fault) × (exit ≡ exit_of (stop_of_input fault)) × IsUntouched fed × IsUntouched out × (new ≡ old) × Reports (line_of_stop (stop_of_input fault)) errors)
