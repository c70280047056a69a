-- Told: what the device for fault lines was sent by a run.
-- Source: this project's own.
use Rattle.std.specs.Prelude.{◌≡◌, ℕ, IsTrue, ◌⊎◌, List, Result, Err}
use Rattle.vault_inventory.specs.{declared.fault.InvFault.InvFault, Inventories.Inventory}
use Rattle.base_device.specs.Seen.{Change, Receives, ReceivesFront}
use Rattle.program_report.specs.{declared.exit.Exit.Exit, FaultLine.fault_line, Sent.GaveUp, Sent.IsUntouched}
use Rattle.program_report.specs.declared.exit.Exit.TheVariants as exits
use Rattle.program_report.specs.declared.stop.Stop.TheVariants as stops

-- the line, and nothing else, was written and flushed; or, where the device gave up, a front of the line was written
abbrev pub Reports : List ℕ → Change → Type 0
Reports line errors =
    (Receives line errors × (IsTrue errors.new.output.is_flushed ⊎ GaveUp errors))
    ⊎ (ReceivesFront line errors × GaveUp errors)

-- what a run of this program has told, by what is read of the bytes of an inventory and by exit, where it writes and reads nothing
-- besides
abbrev pub Told : List ℕ → Result Inventory InvFault → Exit → Change → Type 0
Told program answer exits.Inventory errors = (fault : InvFault) × (answer ≡ Err fault) × Reports (fault_line program (stops.Inventory fault)) errors
Told program answer exits.TooLong errors = Reports (fault_line program stops.TooLong) errors
Told program answer exits.Device errors = Reports (fault_line program stops.Write) errors
Told program answer exits.Memory errors = Reports (fault_line program stops.Memory) errors
Told program answer exit errors = IsUntouched errors
