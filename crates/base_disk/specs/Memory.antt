-- Memory: a disk in memory is the files that it began with, and what its calls did to them.
-- Source: this project's own.
use Rattle.std.specs.Prelude.{◌≡◌, ◌⊎◌, ℕ, zero, suc, ◌≤◌, List, [], ◌∷◌, ◌++◌, Vec, Result, Err, Option, None, Some, Bool, true, false, if◌then◌else◌}
use Rattle.std.specs.{Str.bytes_eq, declared.alloc.Global.Global}
use Rattle.base_disk.specs.{Image.File, Image.Image, State.DiskState, State.Beside, History.state_after_calls, declared.call.Stored.Stored, declared.call.DiskCall.DiskCall, declared.call.Held.Held, declared.call.CallMade.CallMade}
use Rattle.base_disk.specs.{declared.fault.DiskFault.DiskFault, declared.failing.Failing.Failing, declared.fault.DiskTrouble.DiskTrouble, declared.memory.MemoryDisk.MemoryDisk, declared.call.FileDraft.FileDraft}
use Rattle.base_disk.specs.declared.fault.DiskFault.TheVariants as faults
use Rattle.base_disk.specs.declared.failing.Failing.TheVariants as failing

-- a file that code holds
abbrev pub held_file : Option Held → Option File
held_file None = None
held_file (Some file) = Some (record { mode = file.mode; bytes = file.bytes.items })

-- the files as they stood before the first call
abbrev pub image_of : List Stored → Image
image_of [] path = None
image_of (stored ∷ rest) path = if bytes_eq stored.path.items path then held_file (Some stored.file) else image_of rest path

-- what stands on the disk of them: these, or all of them
abbrev pub kept_of : List Stored → Option (Vec Stored Global) → Image
kept_of files None = image_of files
kept_of files (Some kept) = image_of kept.items

abbrev pub beside_of : Option FileDraft → Option Beside
beside_of None = None
beside_of (Some draft) = Some (record { path = draft.path.items; file = record { mode = draft.file.mode; bytes = draft.file.bytes.items }; is_synced = draft.is_synced })

-- what a loss of power may leave where one image is seen and the other one is on the disk: at each path what the one has, or the other
abbrev pub EitherEach : Image → Image → Image → Type 0
EitherEach seen kept c = (path : List ℕ) → (c path ≡ seen path) ⊎ (c path ≡ kept path)

-- before the first call, where one image is seen and the other one is on the disk
abbrev pub at_first : Image → Image → DiskTrouble → DiskState
at_first image kept why = record {
  seen = image;
  beside = None;
  taken = λ path. false;
  is_sound = λ path. true;
  may_leave = EitherEach image kept;
  moment = 0;
  left_since = λ t c. (t ≤ 0) × EitherEach image kept c;
  faults = 0;
  fault = why;
}

-- what these calls made of these files
abbrev pub state_of : List DiskCall → List Stored → Option (Vec Stored Global) → Option FileDraft → Bool → ℕ → DiskTrouble → DiskState
state_of calls files kept beside taken faults fault = record (state_after_calls calls (at_first (image_of files) (kept_of files kept) fault)) { beside = beside_of beside; taken = λ path. taken; faults = faults; fault = fault }

-- the calls on its files, in their order
abbrev pub calls_of_disk : MemoryDisk → List DiskCall
calls_of_disk m = m.calls.items

abbrev pub memory_state : MemoryDisk → DiskState
memory_state m = state_of m.calls.items m.files.items m.kept m.beside m.taken m.faults m.fault

-- but for its calls and their failures, a disk is as it was
pub record IsSame (old new : MemoryDisk) : Type 0 where
  pub files : new.files.items ≡ old.files.items
  pub kept : new.kept ≡ old.kept
  pub beside : new.beside ≡ old.beside
  pub taken : new.taken ≡ old.taken
  pub fault : new.fault ≡ old.fault

-- one call more was made, on this path
pub record HasEntered (path : List ℕ) (what : CallMade) (old new : MemoryDisk) : Type 0 where
  pub name : Vec ℕ Global
  pub name_is : name.items ≡ path
  pub calls : new.calls.items ≡ old.calls.items ++ record { path = name; what = what } ∷ []

-- a call is entered unless there was no memory for it
abbrev pub EntersCall : List ℕ → CallMade → MemoryDisk → MemoryDisk → Result Unit DiskFault → Type 0
EntersCall path what old new (Err faults.OutOfMemory) = new.calls.items ≡ old.calls.items
EntersCall path what old new answer = HasEntered path what old new

-- whether the call whose turn it is fails, and what is to fail after it
abbrev pub is_turn : Failing → Bool
is_turn failing.Never = false
is_turn (failing.Once zero) = true
is_turn (failing.Once (suc n)) = false
is_turn (failing.From zero) = true
is_turn (failing.From (suc n)) = false

abbrev pub next_turn : Failing → Failing
next_turn failing.Never = failing.Never
next_turn (failing.Once zero) = failing.Never
next_turn (failing.Once (suc n)) = failing.Once n
next_turn (failing.From zero) = failing.From zero
next_turn (failing.From (suc n)) = failing.From n

-- nothing has happened yet: the one image is seen, the other one is on the disk, and no call has failed
pub record IsFreshDisk (image kept : Image) (why : DiskTrouble) (s : DiskState) : Type 0 where
  pub seen : s.seen ≡ image
  pub beside : s.beside ≡ None
  pub sound : (path : List ℕ) → s.is_sound path ≡ true
  pub left : (c : Image) → s.may_leave c → EitherEach image kept c
  pub each : (c : Image) → EitherEach image kept c → s.may_leave c
  pub faults : s.faults ≡ 0
  pub fault : s.fault ≡ why

-- a crash at this moment counts as one since any moment before, and of the present moment there is no other
pub record IsLawful (s : DiskState) : Type 0 where
  pub counts : (t : ℕ) (c : Image) → t ≤ s.moment → s.may_leave c → s.left_since t c
  pub only : (t : ℕ) (c : Image) → s.moment ≤ t → s.left_since t c → s.may_leave c
  pub none_later : (t : ℕ) (c : Image) → s.left_since t c → t ≤ s.moment
