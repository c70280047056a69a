-- Journals: what a journal holds, and what a crash leaves of it.
-- Source: this project's own.
use Rattle.std.specs.Prelude.{◌≡◌, ◌⊎◌, ◌<◌, ℕ, List, [], length, Bool, false, IsTrue, Option, None, Some}
use Rattle.std.specs.Str.{bytes_eq}
use Rattle.base_disk.specs.{State.DiskState, State.DiskKeeps, declared.fault.DiskFault.DiskFault}
use Rattle.base_disk.specs.Image.{File, Image, SameElsewhere}
use Rattle.base_disk.specs.declared.fault.DiskFault.TheVariants.{Failed, TooLong, OutOfMemory}
use Rattle.base_journal.specs.{declared.journal.Journal.Journal, declared.journal.TheConstants.MOST_BYTES}
use Rattle.base_journal.specs.Records.{AreLines, blocks, at_rest}

-- the bytes at a path; none where there is no file
abbrev pub bytes_of_file : Option File → List ℕ
bytes_of_file None = []
bytes_of_file (Some file) = file.bytes

-- the file at the path is these records at rest, on the disk, and its closed gate stands at this offset
pub record JournalIsAtRest (path : List ℕ) (lines : List (List ℕ)) (size : ℕ) (s : DiskState) : Type 0 where
  pub are_lines : AreLines lines
  pub mode : ℕ
  pub seen : s.seen path ≡ Some (record { mode = mode; bytes = at_rest lines })
  pub size_is : size ≡ length (blocks lines)
  pub is_kept : DiskKeeps path s

abbrev pub path_of_journal : Journal → List ℕ
path_of_journal journal = journal.path.now

-- the records that it holds, in their order
abbrev pub lines_of_journal : Journal → List (List ℕ)
lines_of_journal journal = journal.lines.items

-- the disk may have the record that was put last, although it was refused
abbrev pub may_have : Journal → Bool
may_have journal = journal.may_be_open

-- its file is at rest with its records
abbrev pub JournalIsWhole : Journal → DiskState → Type 0
JournalIsWhole journal s = JournalIsAtRest journal.path.now journal.lines.items journal.size s

-- its records are lines; and its file is at rest with them, where this process has written it and no call has failed since
pub record JournalHolds (known : Bool) (journal : Journal) (s : DiskState) : Type 0 where
  pub are_lines : AreLines (lines_of_journal journal)
  pub whole : IsTrue known → IsTrue journal.is_whole → JournalIsWhole journal s

-- the files at all other paths are as they were
pub record KeepsOthers (path : List ℕ) (old new : DiskState) : Type 0 where
  pub seen : SameElsewhere path old.seen new.seen
  pub sound : (other : List ℕ) → bytes_eq path other ≡ false → new.is_sound other ≡ old.is_sound other

-- all but the file at this path is as some crash might have left it before, and so is that file, or it has P
abbrev pub CrashLeaves : List ℕ → (List ℕ → Type 0) → DiskState → Image → Type 0
CrashLeaves path P old c = (d : Image) × old.may_leave d × SameElsewhere path d c × ((c path ≡ d path) ⊎ P (bytes_of_file (c path)))

-- that a file would be too long is told only of so many bytes as a journal's may not have
abbrev pub TellsLength : ℕ → DiskFault → Type 0
TellsLength size (Failed why) = Unit {0}
TellsLength size TooLong = MOST_BYTES < size
TellsLength size OutOfMemory = Unit {0}

-- what a crash leaves while a file takes its place and then the journal's is made anew: the two as they were; or that file in
-- its place, and the journal's as it was, or with P; and all else as it was
pub record Exchanging (path target : List ℕ) (file : File) (P : List ℕ → Type 0) (old : DiskState) (c : Image) : Type 0 where
  pub was : Image
  pub before : old.may_leave was
  pub elsewhere : (other : List ℕ) → bytes_eq path other ≡ false → bytes_eq target other ≡ false → c other ≡ was other
  pub both : ((c target ≡ was target) × (c path ≡ was path))
      ⊎ ((c target ≡ Some file) × ((c path ≡ was path) ⊎ P (bytes_of_file (c path))))

-- the file at the path has these permission bits and bytes, and is on the disk
pub record FileIsThere (path : List ℕ) (file : File) (s : DiskState) : Type 0 where
  pub seen : s.seen path ≡ Some file
  pub is_kept : DiskKeeps path s
