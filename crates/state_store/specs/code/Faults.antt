-- Words for the faults of the crates below, as this one tells them. No public clause cites them.
-- Source: this project's own.
use Rattle.std.specs.Prelude.{◌≡◌, ℕ, List, Err, Bool, true, false, Option, Some, None}
use Rattle.state_changes.specs.{declared.change.Change.Change, declared.change.Record.Record, declared.fault.ChangeFault.ChangeFault}
use Rattle.state_changes.specs.declared.change.Record.TheVariants.{Made, Settling}
use Rattle.state_changes.specs.declared.fault.ChangeFault.TheVariants as changes
use Rattle.base_disk.specs.{State.IsNotTooLong, declared.fault.DiskFault.DiskFault}
use Rattle.base_disk.specs.declared.fault.DiskFault.TheVariants as disks
use Rattle.vault_inventory.specs.Inventory.{read_served}
use Rattle.vault_inventory.specs.declared.fault.InvFault.{InvFault}
use Rattle.vault_inventory.specs.declared.fault.InvFault.TheVariants as inventories
use Rattle.state_file.specs.declared.fault.SettleFault.{SettleFault}
use Rattle.state_file.specs.declared.fault.SettleFault.TheVariants as settles
use Rattle.state_store.specs.{declared.fault.FileFault.FileFault, declared.fault.TakeFault.TakeFault, declared.fault.Unsettled.Unsettled}
use Rattle.state_store.specs.declared.fault.FileFault.TheVariants as files
use Rattle.state_store.specs.declared.fault.TakeFault.TheVariants as takes
use Rattle.state_store.specs.declared.fault.Unsettled.TheVariants as unsettles

-- lack of memory is told as such, wherever it comes from
abbrev pub unmade : ChangeFault → TakeFault
unmade changes.OutOfMemory = takes.OutOfMemory
unmade fault = takes.Refused fault

abbrev pub unwritten : SettleFault → TakeFault
unwritten settles.OutOfMemory = takes.OutOfMemory
unwritten fault = takes.Unwritten fault

abbrev pub unkept : DiskFault → Bool → TakeFault
unkept fault true = takes.Unsure fault
unkept disks.OutOfMemory false = takes.OutOfMemory
unkept fault false = takes.Disk fault

-- a disk has not kept the record, or may have kept it
abbrev pub IsUnkept : TakeFault → Type 0
IsUnkept fault = (why : DiskFault) × (may_have : Bool) × (fault ≡ unkept why may_have)

-- it is no fault of a disk
abbrev pub IsOfNoDisk : TakeFault → Type 0
IsOfNoDisk (takes.Disk fault) = ⊥
IsOfNoDisk (takes.Unsure fault) = ⊥
IsOfNoDisk fault = Unit {0}

-- it is not that a file is too long
abbrev pub IsOfNoLength : TakeFault → Type 0
IsOfNoLength (takes.Disk fault) = IsNotTooLong fault
IsOfNoLength (takes.Unsure fault) = IsNotTooLong fault
IsOfNoLength fault = Unit {0}

abbrev pub faulty : InvFault → FileFault
faulty inventories.OutOfMemory = files.OutOfMemory
faulty fault = files.Faulty fault

-- why bytes are no file: they are no inventory, or memory was refused
abbrev pub IsNoFile : List ℕ → FileFault → Type 0
IsNoFile bytes (files.Faulty fault) = read_served bytes ≡ Err fault
IsNoFile bytes files.OutOfMemory = Unit {0}
IsNoFile bytes fault = ⊥

abbrev pub unhanded : SettleFault → FileFault
unhanded settles.OutOfMemory = files.OutOfMemory
unhanded fault = files.Unwritten fault

abbrev pub unsaid : SettleFault → Unsettled
unsaid settles.OutOfMemory = unsettles.OutOfMemory
unsaid fault = unsettles.Unwritten fault

abbrev pub unmoved : DiskFault → Unsettled
unmoved disks.OutOfMemory = unsettles.OutOfMemory
unmoved fault = unsettles.Disk fault

-- the change of a record, where it is one
abbrev pub change_in : Option Record → Option Change
change_in None = None
change_in (Some (Made c)) = Some c
change_in (Some (Settling mark)) = None
