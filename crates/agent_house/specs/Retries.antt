-- Retries: whether changes are kept over a restart; who does not keep them yet tries again to, and what came of that is said.
-- Source: docs/commands/serve.md, "Changes".
use Rattle.std.specs.Prelude.{◌≡◌, ℕ, ◌/◌, Bool, true, false, Option, Some, None, Result, Ok, Err}
use Rattle.std.specs.declared.alloc.AllocError.{AllocError}
use Rattle.agent_answers.specs.declared.asked.ClientOrder.{ClientOrder}
use Rattle.agent_ledger.specs.{Keeping.KeepCall, Keeping.TryAgain, declared.keeping.KeepNews.KeepNews}
use Rattle.agent_log.specs.{AtStart.AreSaidAtStart, LogDesk.Desk}
use Rattle.agent_pages.specs.{declared.board.FileReading.FileReading, declared.state_folder.StateFolder.StateFolder}
use Rattle.agent_pages.specs.declared.state_folder.StateFolder.TheVariants.{NotAskedFor, CannotBeUsed, IsOpen}
use Rattle.base_clock.specs.declared.reading.Reading.{Reading}
use Rattle.agent_house.specs.declared.house.House.{House}

-- somebody keeps changes over a restart
abbrev pub keeps_in : {K : Type 0} → (K → Bool) → Option K → Bool
keeps_in keeps None = false
keeps_in keeps (Some keeper) = keeps keeper

-- in a state folder: none was asked for where nobody is there to keep them, and it cannot be used yet where who is there does not
abbrev pub folder_where : Bool → StateFolder
folder_where true = IsOpen
folder_where false = CannotBeUsed

abbrev pub folder_in : {K : Type 0} → (K → Bool) → Option K → StateFolder
folder_in keeps None = NotAskedFor
folder_in keeps (Some keeper) = folder_where (keeps keeper)

-- the file was read at this moment, in milliseconds of the wall's clock, and was good, or was not
abbrev pub read_well : Reading → FileReading
read_well now = record { is_good = true; at = Some (now.wall / 1000); good_at = Some (now.wall / 1000) }

abbrev pub read_badly : Reading → FileReading → FileReading
read_badly now before = record before { is_good = false; at = Some (now.wall / 1000) }

abbrev pub read_so : Reading → Bool → FileReading → FileReading
read_so now true before = read_well now
read_so now false before = read_badly now before

-- ---- what is said once they are kept

abbrev pub SaysNews : Reading → Option KeepNews → FileReading → Desk → FileReading → Desk → Type 0
SaysNews now None file old after new = (after ≡ file) × (new ≡ old)
SaysNews now (Some news) file old after new = (after ≡ read_so now news.is_good file) × AreSaidAtStart now news.said.items old new

-- ---- whoever is there tries again, where a client asks for something or not

abbrev pub is_any_asked : Result (Option ClientOrder) AllocError → Bool
is_any_asked (Ok None) = false
is_any_asked (Ok (Some asked)) = true
is_any_asked (Err e) = false

abbrev pub KeeperTries : {K : Type 0} → (KeepCall → K → K → Type 0) → ℕ → Bool → Option KeepNews → Option K → Option K → Type 0
KeeperTries does now is_asked news None new = (news ≡ None) × (new ≡ None)
KeeperTries does now is_asked news (Some old) None = ⊥
KeeperTries does now is_asked news (Some old) (Some new) = does (TryAgain now is_asked news) old new

-- the log says what came of it, and how the file was read. Nothing else changes
pub record TriesAgain {S T D K E : Type 0} (does : KeepCall → K → K → Type 0) (now : Reading) (is_asked : Bool) (old new : House S T D K E) : Type 0 where
  pub news : Option KeepNews
  pub tries : KeeperTries does now.elapsed is_asked news old.state new.state
  pub says : SaysNews now news old.file old.desk new.file new.desk
  pub rest : new ≡ record old { state = new.state; desk = new.desk; file = new.file }
