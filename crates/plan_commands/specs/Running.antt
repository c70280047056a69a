-- Running: how a run of a command ends by what is read of the bytes of an inventory, for any command that writes one text about
-- a forest.
-- Source: this project's own.
use Rattle.std.specs.Prelude.{◌≡◌, ◌⊎◌, ℕ, List, Result, Ok, Err}
use Rattle.base_device.specs.Seen.{Change}
use Rattle.plan_forest.specs.Forest.{Forest}
use Rattle.vault_inventory.specs.{declared.fault.InvFault.InvFault, Inventories.Inventory}
use Rattle.program_report.specs.{declared.exit.Exit.Exit, declared.stop.Stop.Stop, Exits.exit_of, FaultLine.line_of_stop, Told.Reports}
use Rattle.program_report.specs.Sent.{IsAll, IsUntouched, SendsText}
use Rattle.program_report.specs.declared.stop.Stop.TheVariants as stops

-- the texts that a command may write about a forest, each with its exit
abbrev pub Texts : Type 1
Texts = Forest → Exit → List ℕ → Type 0

-- the reasons for which it writes none, but for a text that is no inventory, and lack of memory
abbrev pub Halts : Type 1
Halts = Forest → Stop → Type 0

-- there is always a text
abbrev pub NoHalts : Halts
NoHalts g stop = ⊥

-- why a command makes no text of what was read
abbrev pub Halted : Halts → Result Inventory InvFault → Stop → Type 0
Halted Halt answer (stops.Inventory fault) = answer ≡ Err fault
Halted Halt answer stops.Memory = Unit {0}
Halted Halt answer stop = (inventory : Inventory) × (answer ≡ Ok inventory) × Halt inventory.forest stop

-- the whole text was written and flushed, and nothing was told
abbrev pub RunsWhole : Texts → Result Inventory InvFault → Exit → Change → Change → Type 0
RunsWhole Text answer exit out errors =
    (inventory : Inventory) × (answer ≡ Ok inventory) × (text : List ℕ) × Text inventory.forest exit text × IsAll text out × IsUntouched errors

-- there is no text: nothing was written, and why was told
abbrev pub RunsHalted : Halts → Result Inventory InvFault → Exit → Change → Change → Type 0
RunsHalted Halt answer exit out errors = (stop : Stop) × Halted Halt answer stop × (exit ≡ exit_of stop) × IsUntouched out × Reports (line_of_stop stop) errors

-- the writing was cut short: no more than a front of the text was written, and that was told
abbrev pub RunsCut : Texts → Result Inventory InvFault → Exit → Change → Change → Type 0
RunsCut Text answer exit out errors =
    (inventory : Inventory) × (answer ≡ Ok inventory) × (given : Exit) × (text : List ℕ) × Text inventory.forest given text
    × (stop : Stop) × SendsText (Err stop) text out × (exit ≡ exit_of stop) × Reports (line_of_stop stop) errors

-- a run, by how it ended
abbrev pub RunOf : Texts → Halts → Result Inventory InvFault → Exit → Change → Change → Type 0
RunOf Text Halt answer exit out errors = RunsWhole Text answer exit out errors ⊎ (RunsHalted Halt answer exit out errors ⊎ RunsCut Text answer exit out errors)
