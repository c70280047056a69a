-- Faults: what the faults of an inventory and of its settling are to a start.
-- Source: this project's own.
use Rattle.vault_inventory.specs.declared.fault.InvFault.{InvFault}
use Rattle.vault_inventory.specs.declared.fault.InvFault.TheVariants as inventories
use Rattle.state_file.specs.declared.fault.SettleFault.{SettleFault}
use Rattle.state_file.specs.declared.fault.SettleFault.TheVariants as settling
use Rattle.agent_words.specs.declared.fault.StartFault.{StartFault}
use Rattle.agent_words.specs.declared.fault.StartFault.TheVariants.{Inventory, Together, OutOfMemory}

abbrev pub start_of_inventory : InvFault → StartFault
start_of_inventory inventories.OutOfMemory = OutOfMemory
start_of_inventory fault = Inventory fault

abbrev pub start_of_settling : SettleFault → StartFault
start_of_settling settling.OutOfMemory = OutOfMemory
start_of_settling fault = Together fault
