-- Unread: what a disk's fault is to whoever reads FILE.
-- Source: this project's own.
use Rattle.base_disk.specs.declared.fault.DiskFault.{DiskFault}
use Rattle.base_disk.specs.declared.fault.DiskFault.TheVariants as disks
use Rattle.state_file.specs.declared.fault.ReadFault.{ReadFault}
use Rattle.state_file.specs.declared.fault.ReadFault.TheVariants.{Disk, OutOfMemory}

-- lack of memory is told as such
abbrev pub unread : DiskFault → ReadFault
unread disks.OutOfMemory = OutOfMemory
unread fault = Disk fault
