-- States: a keeper beside its disk and its paths.
-- Source: this project's own.
use Rattle.std.specs.Prelude.{◌≡◌, Bool, false}
use Rattle.std.specs.Str.{bytes_eq}
use Rattle.base_disk.specs.State.{DiskState}
use Rattle.base_journal.specs.Journals.{JournalHolds}
use Rattle.state_store.specs.{declared.store.Store.Store, Books.Book}
use Rattle.state_store.specs.Stores.{FileHolds, IsReplayed, book_of, journal_of, path_of_store}
use Rattle.state_keeping.specs.{declared.keeper.StateKeeper.StateKeeper, Keepers.store_of, Places.Places}

pub record Kept (D : Type 0) : Type 0 where
  pub keeper : StateKeeper
  pub disk : D
  pub places : Places

abbrev pub store_in : {D : Type 0} → Kept D → Store
store_in s = store_of s.keeper

abbrev pub book_in : {D : Type 0} → Kept D → Book
book_in s = book_of (store_of s.keeper)

-- what a state always keeps: the journal of its folder holds on the disk, and its rows are those that FILE and the journal give
-- together; and once FILE was synced a crash leaves it as it is seen
pub record IsKeeping (known : Bool) (keeper : StateKeeper) (places : Places) (s : DiskState) : Type 0 where
  pub held : JournalHolds known (journal_of (store_of keeper)) s
  pub replayed : IsReplayed (store_of keeper)
  pub path : path_of_store (store_of keeper) ≡ places.journal
  pub apart : bytes_eq places.journal places.file ≡ false
  pub file : FileHolds known (store_of keeper) places.file s
