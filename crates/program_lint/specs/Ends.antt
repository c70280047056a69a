-- Ends: how a run of `lint` ends.
-- Source: this project's own; docs/commands/lint.md.
use Rattle.std.specs.Prelude.{◌≡◌, ◌⊎◌, ℕ, Bool, true, false, not, List, [], ◌∷◌, Ok}
use Rattle.base_files.specs.Files.{Files}
use Rattle.vault_inventory.specs.Inventories.{Inventory}
use Rattle.program_report.specs.declared.exit.Exit.{Exit}
use Rattle.program_report.specs.declared.exit.Exit.TheVariants as exits
use Rattle.agent_words.specs.{Reading.AreFaults, Reading.IsToServe, declared.demands.Demands.Demands, declared.fault.StartFault.StartFault}

-- with 1 only where it is refused, whatever it holds or because it has faults, and with 0 only where it is served; else a write failed, or
-- memory was refused
abbrev pub EndsBy : Demands → Files → List ℕ → List ℕ → Bool → Exit → Type 0
EndsBy d known folder bytes refused exits.Done = (refused ≡ false) × ((inventory : Inventory) × IsToServe d known folder bytes (Ok inventory))
EndsBy d known folder bytes refused exits.Inventory = (refused ≡ true) ⊎ ((fault : StartFault) × ((more : List StartFault) × AreFaults d known folder bytes (fault ∷ more)))
EndsBy d known folder bytes refused exits.Device = Unit {0}
EndsBy d known folder bytes refused exits.Memory = Unit {0}
EndsBy d known folder bytes refused exit = ⊥

-- an inventory is refused, whatever it holds or for one of these faults
abbrev pub is_faulty : Bool → List StartFault → Bool
is_faulty refused [] = refused
is_faulty refused (fault ∷ faults) = true

-- the same of an inventory that is faulty, or is not
abbrev pub ends_by : Bool → Exit → Bool
ends_by faulty exits.Done = not faulty
ends_by faulty exits.Inventory = faulty
ends_by faulty exits.Device = true
ends_by faulty exits.Memory = true
ends_by faulty exit = false
