-- TakingOver: the ends that a start takes over, and the file that keeps them. What stands in the way is said, and nothing else is.
-- Source: this project's own; docs/commands/serve.md, "Ends over a restart".
use Rattle.std.specs.Prelude.{◌≡◌, ◌⊎◌, ℕ, Bool, true, false, IsTrue, List, [], ◌++◌, Option, Some, None, MatchOption, String, codes, string_bytes}
use Rattle.std.specs.declared.alloc.Global.{Global}
use Rattle.agent_log.specs.{LinesOfEnds.HearsUnread, LogDesk.Desk, LogDesk.HearsAtStart}
use Rattle.agent_standing.specs.declared.ends.KnownEnd.{KnownEnd}
use Rattle.base_clock.specs.declared.reading.Reading.{Reading}
use Rattle.base_disk.specs.{Image.File, State.DiskState, State.LeavesAlone, declared.fault.DiskFault.DiskFault}
use Rattle.agent_ends.specs.{Ends.ends_in, Ends.events_for, declared.file.EndsFile.EndsFile}
use Rattle.vault_inventory.specs.Inventories.{Inventory}
use Rattle.base_log.specs.declared.level.Level.TheVariants.{Alert}
use Rattle.base_words.specs.Texts.{stripped}
use Rattle.watch_machine.specs.declared.event.WatchEvent.{WatchEvent}
use Rattle.agent_system.specs.declared.ends.TakenOver.{TakenOver}

-- the file beside that of the ends whose lock the agent holds that keeps them
abbrev pub lock_of_ends : List ℕ → List ℕ
lock_of_ends path = path ++ codes ".lock"

abbrev pub anothers_text : List ℕ → List ℕ
anothers_text path = path ++ codes " is another agent's: give each a folder of its own"

-- where the kernel says the id of this boot
abbrev pub boot_path : List ℕ
boot_path = codes "/proc/sys/kernel/random/boot_id"

-- the id of this boot, as it stands on a disk
pub record IsBootId (known : Bool) (s : DiskState) (boot : List ℕ) : Type 0 where
  pub stands : IsTrue known → (file : File) × ((s.seen boot_path ≡ Some file) × (boot ≡ stripped file.bytes))

-- the ends in a file, of this boot; none where there is no file
abbrev pub AreEndsOn : Bool → DiskState → List ℕ → List ℕ → List KnownEnd → Type 0
AreEndsOn known s path boot ends = IsTrue known → MatchOption (s.seen path) (ends ≡ []) (λ file. ends ≡ ends_in boot file.bytes)

-- nothing is taken over
pub record IsNothing {E : Type 0} (t : TakenOver E) : Type 0 where
  pub file : t.file ≡ None
  pub known : t.known.items ≡ []

-- a file of which nothing is kept yet
abbrev pub fresh_file : {E : Type 0} → String Global → List ℕ → E → EndsFile E
fresh_file path boot disk = record { path = path; boot = boot; is_stale = true; is_failing = false; next = 0; disk = disk }

-- the ends that are kept hand themselves in; or they cannot be read
pub record HandsIn (known : Bool) (s : DiskState) (now : Reading) (inventory : Inventory) (path boot : List ℕ) (events : List WatchEvent) (old new : Desk) : Type 0 where
  pub either : ((ends : List KnownEnd) × (AreEndsOn known s path boot ends × ((events ≡ events_for inventory ends) × (new ≡ old)))) ⊎ ((fault : DiskFault) × ((events ≡ []) × HearsUnread now fault old new))

abbrev pub SaysHeld : Reading → List ℕ → Desk → Desk → Type 0
SaysHeld now path old new = HearsAtStart now Alert (codes "ends") (anothers_text path) old new

module _ {E : Type 0} (known : Bool) (seen : E → DiskState) (now : Reading) where
  -- whether no other agent holds the file at a path; where one does, that is said
  abbrev pub AsksForLock : List ℕ → Bool → E → Desk → Desk → Type 0
  AsksForLock path true disk old new = new ≡ old
  AsksForLock path false disk old new = (IsTrue known → (seen disk).taken (lock_of_ends path) ≡ true) × SaysHeld now path old new

  -- another agent holds it, as the disk was once the id of the boot was read
  pub record IsAnothers (path : List ℕ) (disk : E) (old new : Desk) : Type 0 where
    pub boot : List ℕ
    pub is_boot : IsBootId known (seen disk) boot
    pub asked : E
    pub alone : IsTrue known → LeavesAlone (seen disk) (seen asked)
    pub held : AsksForLock path false asked old new

  -- this agent does, and there is an id of this boot; nothing is said
  pub record IsOwn (disk : E) (boot : List ℕ) (after : E) (old new : Desk) : Type 0 where
    pub is_boot : IsBootId known (seen disk) boot
    pub alone : IsTrue known → LeavesAlone (seen disk) (seen after)
    pub silent : new ≡ old

  -- another agent does, or there is no id; that is said
  pub record IsNotOwn (path : List ℕ) (disk : E) (old new : Desk) : Type 0 where
    pub either : IsAnothers path disk old new ⊎ ((fault : DiskFault) × HearsUnread now fault old new)

  -- the id of this boot, where this agent holds the file at a path; or why it does not keep any ends
  abbrev pub FindsBoot : List ℕ → E → Option (List ℕ) → E → Desk → Desk → Type 0
  FindsBoot path disk (Some boot) after old new = IsOwn disk boot after old new
  FindsBoot path disk None after old new = IsNotOwn path disk old new

  -- the ends that are kept in a file hand themselves in
  pub record IsFileTaken (inventory : Inventory) (file : EndsFile E) (t : TakenOver E) (old new : Desk) : Type 0 where
    pub after : E
    pub alone : IsTrue known → LeavesAlone (seen file.disk) (seen after)
    pub file_is : t.file ≡ Some (record file { disk = after })
    pub hands_in : HandsIn known (seen file.disk) now inventory (string_bytes file.path) file.boot t.known.items old new

  -- this agent holds the file, and keeps ends in it from now on
  pub record IsTakenOver (inventory : Inventory) (path : String Global) (disk : E) (t : TakenOver E) (old new : Desk) : Type 0 where
    pub boot : List ℕ
    pub is_boot : IsBootId known (seen disk) boot
    pub held : E
    pub alone : IsTrue known → LeavesAlone (seen disk) (seen held)
    pub taken : IsFileTaken inventory (fresh_file path boot held) t old new

  -- nothing is kept, for this reason
  abbrev pub KeepsNoEnds : List ℕ → E → TakenOver E → Desk → Desk → Type 0
  KeepsNoEnds path disk t old new = IsNothing t × IsNotOwn path disk old new

  pub record TakesFile (inventory : Inventory) (path : String Global) (disk : E) (t : TakenOver E) (old new : Desk) : Type 0 where
    pub either : IsTakenOver inventory path disk t old new ⊎ KeepsNoEnds (string_bytes path) disk t old new

  -- what a start takes over of the file at a path, where there is one
  abbrev pub TakesOver : Inventory → Option (String Global) → E → TakenOver E → Desk → Desk → Type 0
  TakesOver inventory None disk t old new = IsNothing t × (new ≡ old)
  TakesOver inventory (Some path) disk t old new = TakesFile inventory path disk t old new
