-- Reasons: why a file is not read or served, and what a disk met, in words for the one who asked. No credential is in any of them.
-- Source: this project's own.
use Rattle.std.specs.Prelude.{ℕ, List, ◌++◌, codes, decimal}
use Rattle.base_disk.specs.declared.fault.DiskFault.{DiskFault}
use Rattle.base_disk.specs.declared.fault.DiskFault.TheVariants as disks
use Rattle.base_disk.specs.declared.fault.DiskTrouble.TheVariants.{Full, ReadOnly, Denied, Missing, Irregular, Other}
use Rattle.program_report.specs.FaultLine.{inventory_words}
use Rattle.state_file.specs.declared.fault.ReadFault.{ReadFault}
use Rattle.state_file.specs.declared.fault.ReadFault.TheVariants as reads
use Rattle.plan_forest.specs.Forest.{Forest}
use Rattle.agent_words.specs.{Refusing.start_words, declared.demands.Demands.Demands, declared.fault.StartFault.StartFault}
use Rattle.agent_words.specs.declared.fault.StartFault.TheVariants as starts

abbrev pub disk_words : DiskFault → List ℕ
disk_words (disks.Failed Full) = codes "no space is left"
disk_words (disks.Failed ReadOnly) = codes "the file system is read-only"
disk_words (disks.Failed Denied) = codes "permission denied"
disk_words (disks.Failed Missing) = codes "no such file or folder"
disk_words (disks.Failed Irregular) = codes "it is not a regular file"
disk_words (disks.Failed Other) = codes "the disk failed"
disk_words disks.TooLong = codes "too long"
disk_words disks.OutOfMemory = codes "out of memory"

-- why FILE is not read
abbrev pub unread_words : ReadFault → List ℕ
unread_words reads.Missing = codes "there is no such file"
unread_words reads.NotRegular = codes "is not a regular file; name one"
unread_words (reads.ForOthers mode) = codes "others may read or write this file; chmod o-rwx it: it holds secrets"
unread_words (reads.Disk fault) = codes "cannot be read: " ++ disk_words fault
unread_words reads.OutOfMemory = codes "out of memory"

-- why FILE is not served: its first fault as an inventory; or what is demanded of it
abbrev pub file_words : Demands → Forest → StartFault → List ℕ
file_words d g (starts.Inventory fault) = inventory_words fault
file_words d g fault = start_words d g fault

-- how many more faults FILE has
abbrev pub more_words : ℕ → List ℕ
more_words left = codes "and " ++ (decimal left ++ codes " more")
