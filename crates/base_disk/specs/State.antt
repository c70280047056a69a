-- State: all that contracts know of a disk.
-- Source: this project's own.
use Rattle.std.specs.Prelude.{◌≡◌, ◌⊎◌, ℕ, ◌≤◌, List, Bool, true, false, Option, Some, Result, Ok, Err}
use Rattle.std.specs.Str.{bytes_eq}
use Rattle.base_device.specs.Failures.{one_more}
use Rattle.base_disk.specs.{Image.Image, Image.File, Image.SameElsewhere, declared.fault.DiskTrouble.DiskTrouble, declared.fault.DiskFault.DiskFault}
use Rattle.base_disk.specs.declared.fault.DiskFault.TheVariants as faults

-- a file that is written beside the place that it is for, and whether it is on the disk
pub record Beside : Type 0 where
  pub path : List ℕ
  pub file : File
  pub is_synced : Bool

-- what reads give, and what a crash may leave
pub record DiskState : Type 1 where
  pub seen : Image
  pub beside : Option Beside
  -- another process holds the lock of the file at a path
  pub taken : List ℕ → Bool
  -- no write or sync of the file at a path has failed: after one, nobody knows what a sync will keep
  pub is_sound : List ℕ → Bool
  -- what a crash at this moment may leave
  pub may_leave : Image → Type 0
  -- a number that does not fall
  pub moment : ℕ
  -- what a crash at some moment from that one on might have left, during a call or between two
  pub left_since : ℕ → Image → Type 0
  -- how many calls failed, up to the greatest number, and what the last of them met
  pub faults : ℕ
  pub fault : DiskTrouble

-- what a read gives of this path is on the disk, and stays there until it is changed
pub record DiskKeeps (path : List ℕ) (s : DiskState) : Type 0 where
  pub sound : s.is_sound path ≡ true
  pub durable : (c : Image) → s.may_leave c → c path ≡ s.seen path

-- what a crash might have left before, after a step
abbrev pub IsAfter : (Image → Image → Type 0) → DiskState → Image → Type 0
IsAfter step old c = (d : Image) × old.may_leave d × step d c

-- each new outcome of a crash is an old one after a step
abbrev pub OutcomesFollow : (Image → Image → Type 0) → DiskState → DiskState → Type 0
OutcomesFollow step old new = (c : Image) → new.may_leave c → IsAfter step old c

-- a call changes this path at most
pub record Touches (path : List ℕ) (old new : DiskState) : Type 0 where
  pub seen : SameElsewhere path old.seen new.seen
  pub beside : new.beside ≡ old.beside
  pub sound : (other : List ℕ) → bytes_eq path other ≡ false → new.is_sound other ≡ old.is_sound other

-- a call changes nothing, and a crash leaves nothing new
pub record LeavesAlone (old new : DiskState) : Type 0 where
  pub seen : new.seen ≡ old.seen
  pub sound : new.is_sound ≡ old.is_sound
  pub crash : (c : Image) → new.may_leave c → old.may_leave c

-- Time goes on: a crash since t might have left what it might have left before, or what it may leave now.
pub record Elapses (old new : DiskState) : Type 0 where
  pub later : old.moment ≤ new.moment
  pub nothing_else : (t : ℕ) (c : Image) → t ≤ old.moment → new.left_since t c → old.left_since t c ⊎ new.may_leave c
  pub keeps : (t : ℕ) (c : Image) → t ≤ old.moment → old.left_since t c → new.left_since t c

-- A crash at any moment from old to new leaves an image that has P.
pub record LeavesOnly (old new : DiskState) (P : Image → Type 0) : Type 0 where
  pub later : old.moment ≤ new.moment
  pub each : (c : Image) → new.left_since old.moment c → P c
  -- for a run that began earlier
  pub before : (t : ℕ) (c : Image) → t ≤ old.moment → new.left_since t c → old.left_since t c ⊎ P c

-- a call tells that it failed exactly where the disk did, and says what the disk said
abbrev pub TellsFailure : {X : Type 0} → DiskState → DiskState → Result X DiskFault → Type 0
TellsFailure old new (Ok x) = new.faults ≡ old.faults
TellsFailure old new (Err (faults.Failed why)) = (new.faults ≡ one_more old.faults) × (new.fault ≡ why)
TellsFailure old new (Err faults.TooLong) = new.faults ≡ old.faults
TellsFailure old new (Err faults.OutOfMemory) = new.faults ≡ old.faults

-- it is not that a file is too long: only a read tells that
abbrev pub IsNotTooLong : DiskFault → Type 0
IsNotTooLong (faults.Failed why) = Unit {0}
IsNotTooLong faults.TooLong = ⊥
IsNotTooLong faults.OutOfMemory = Unit {0}

-- this file stands beside its place, and is on the disk
abbrev pub StandsBeside : List ℕ → File → DiskState → Type 0
StandsBeside path file s = s.beside ≡ Some (record { path = path; file = file; is_synced = true })
