-- Opens: what is kept from a start on.
-- Source: this project's own.
use Rattle.std.specs.Prelude.{◌≡◌, ◌≢◌, ℕ, List, [], Option, Some, None, is_none, Bool, true, false, ◌||◌, IsTrue}
use Rattle.std.specs.Str.{bytes_eq}
use Rattle.base_disk.specs.declared.fault.DiskFault.{DiskFault}
use Rattle.base_disk.specs.State.{DiskKeeps, DiskState, LeavesOnly}
use Rattle.base_disk.specs.declared.fault.DiskFault.TheVariants as disks
use Rattle.base_journal.specs.{Journals.bytes_of_file, Records.StandsFor}
use Rattle.state_store.specs.{declared.fault.FileFault.FileFault, Books.IsFileFaultOf, Records.records_in}
use Rattle.state_store.specs.Stores.{BookIsFrom, is_sure, lines_in}
use Rattle.state_store.specs.declared.fault.FileFault.TheVariants as files
use Rattle.state_keeping.specs.{Keepers.waiting_in, declared.fault.OpenFault.OpenFault, declared.opening.OpenedState.OpenedState, Places.Places, Settles.IsCopiedTo, States.book_in, States.store_in}
use Rattle.state_keeping.specs.declared.fault.OpenFault.TheVariants.{Held, Disk, File, OutOfMemory}
use Rattle.state_keeping.specs.Recovers.{IsAside, IsPutAside, LeftByStart, damage_of}

-- lack of memory is told as such
abbrev pub unheld : DiskFault → OpenFault
unheld disks.OutOfMemory = OutOfMemory
unheld fault = Disk fault

abbrev pub unserved : FileFault → OpenFault
unserved files.OutOfMemory = OutOfMemory
unserved fault = File fault

-- no fault of a file that is to be served; another process holds the folder where it holds its lock
abbrev pub IsOfFolder : Bool → Places → DiskState → OpenFault → Type 0
IsOfFolder known places s Held = IsTrue known → s.taken places.lock ≡ true
IsOfFolder known places s (File fault) = ⊥
IsOfFolder known places s fault = Unit {0}

-- why nothing is kept: another process holds the folder, the journal cannot be used, or no file is served with the lines that the
-- journal's file stands for
abbrev pub IsWhyUnopened : Bool → Option (List ℕ) → Places → DiskState → OpenFault → Type 0
IsWhyUnopened known file places s Held = IsTrue known → s.taken places.lock ≡ true
IsWhyUnopened known file places s (Disk fault) = Unit {0}
IsWhyUnopened known file places s (File fault) = (lines : List (List ℕ)) × (IsTrue known → StandsFor (bytes_of_file (s.seen places.journal)) lines) × IsFileFaultOf file (records_in lines) [] fault
IsWhyUnopened known file places s OutOfMemory = Unit {0}

-- the last good copy is on the disk as it is seen, where no call on it has failed; unless this says why it could not be synced
abbrev pub IsSyncedTo : Bool → List ℕ → Option DiskFault → DiskState → Type 0
IsSyncedTo known path None s = IsTrue known → s.is_sound path ≡ true → DiskKeeps path s
IsSyncedTo known path (Some fault) s = Unit {0}

abbrev pub IsCopiedIf : Bool → List ℕ → Option (List ℕ) → Option DiskFault → DiskState → Type 0
IsCopiedIf known path None copy s = copy ≡ None
IsCopiedIf known path (Some bytes) copy s = IsCopiedTo known path bytes copy s

-- the file that is served is the last good copy, unless this says why not; or that copy is served, and was synced, unless this says why not
abbrev pub IsCopyOf : Bool → List ℕ → Option (List ℕ) → Option FileFault → Option DiskFault → DiskState → Type 0
IsCopyOf known path file None copy s = IsCopiedIf known path file copy s
IsCopyOf known path file (Some fault) copy s = IsSyncedTo known path copy s

-- changes are taken, unless the copy that is served could not be synced
abbrev pub takes_changes : Option FileFault → Option DiskFault → Bool
takes_changes fault copy = is_none fault || is_none copy

-- over a folder whose journal's file stands for these lines
pub record IsOpenedOver (lines : List (List ℕ)) {D : Type 0} (known : Bool) (file copy : Option (List ℕ)) (places : Places) (s t : DiskState) (o : OpenedState D) : Type 0 where
  pub book : BookIsFrom file copy o.fault (records_in lines) (book_in o.state) o.notes.items
  pub damaged : o.damaged ≡ damage_of lines
  pub aside : IsAside lines o.aside (lines_in (store_in o.state))
  pub put : IsTrue known → o.aside ≡ None → o.damaged ≢ 0 → IsPutAside lines places s t
  pub copied : IsCopyOf known places.copy file o.fault o.copy t
  pub sure : is_sure (store_in o.state) ≡ takes_changes o.fault o.copy
  pub waiting : waiting_in o.state.keeper ≡ None
  pub places_are : o.state.places ≡ places

-- and over a disk, with the lock of the folder, which no other process held; FILE, and all but the journal, the file aside and the copy, is
-- seen as before; a crash at any moment of the start leaves the same records
pub record IsOpenedState {D : Type 0} (known : Bool) (file copy : Option (List ℕ)) (places : Places) (s t : DiskState) (o : OpenedState D) : Type 0 where
  pub lines : List (List ℕ)
  pub locked : o.lock ≡ places.lock
  pub free : IsTrue known → s.taken places.lock ≡ false
  pub read : IsTrue known → StandsFor (bytes_of_file (s.seen places.journal)) lines
  pub over : IsOpenedOver lines known file copy places s t o
  pub others : IsTrue known → (other : List ℕ) → bytes_eq places.journal other ≡ false → bytes_eq places.aside other ≡ false → bytes_eq places.copy other ≡ false → t.seen other ≡ s.seen other
  pub any_moment : IsTrue known → LeavesOnly s t (LeftByStart lines places s)
