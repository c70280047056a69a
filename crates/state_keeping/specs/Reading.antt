-- Reading: FILE as it may be served.
-- Source: this project's own.
use Rattle.std.specs.Prelude.{◌≡◌, ◌≢◌, ℕ, List, None, Some, bit_and}
use Rattle.base_disk.specs.{Image.File, State.DiskState}
use Rattle.state_file.specs.declared.fault.ReadFault.{ReadFault}
use Rattle.state_file.specs.declared.fault.ReadFault.TheVariants.{Missing, NotRegular, ForOthers, Disk, OutOfMemory}
use Rattle.state_keeping.specs.declared.reading.FileRead.{FileRead}

-- the file at this path has that mode and those bytes
abbrev pub IsFileAt : List ℕ → DiskState → FileRead → Type 0
IsFileAt path s read = s.seen path ≡ Some (record { mode = read.mode; bytes = read.bytes })

-- why it is not read: there is none; it is no regular file; others may read or write it; the disk failed, or it is too long; or
-- memory was refused
abbrev pub IsWhyUnread : List ℕ → DiskState → ReadFault → Type 0
IsWhyUnread path s Missing = s.seen path ≡ None
IsWhyUnread path s NotRegular = Unit {0}
IsWhyUnread path s (ForOthers mode) = (file : File) × (s.seen path ≡ Some file) × (mode ≡ file.mode) × (bit_and mode 6 ≢ 0)
IsWhyUnread path s (Disk fault) = Unit {0}
IsWhyUnread path s OutOfMemory = Unit {0}
