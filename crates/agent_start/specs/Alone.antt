-- Alone: what is served without a ledger: what FILE says, as it was read, with what the files of credentials hold that it names.
-- Source: this project's own; docs/commands/serve.md, "The inventory" and "Secrets by file".
use Rattle.std.specs.Prelude.{◌≡◌, ◌⊎◌, ℕ, Bool, true, false, List, [], ◌∷◌, ◌++◌, Option, Some, None, Ok, map}
use Rattle.agent_words.specs.{Gathering.AreGathered, Reading.IsWellWritten, declared.demands.Demands.Demands, declared.said.About.TheVariants.SecretFile, declared.said.SaidLine.SaidLine}
use Rattle.state_changes.specs.{declared.replaying.JournalNote.JournalNote, declared.secret.Secret.Secret}
use Rattle.base_files.specs.Files.{FileIsRead, Files}
use Rattle.vault_inventory.specs.declared.limits.TheConstants.{MOST_INVENTORY}
use Rattle.base_log.specs.declared.level.Level.TheVariants.{Alert}
use Rattle.state_store.specs.Books.{Book, HasSecrets, IsBookOf}
use Rattle.agent_system.specs.{Saying.said_as, declared.reading.Inventories.Inventories}
use Rattle.agent_system.specs.Whole.{IsServedFile, IsServedWhole, folder_of}
use Rattle.agent_start.specs.{Starts.IsServedOf, declared.start.Start.Start}

-- ---- of bytes of FILE, by the files of credentials and the folder at which their paths start

-- what FILE says, to which nothing was changed, and which holds no credential of a file yet
pub record IsWrittenBook (bytes : List ℕ) (b : Book) : Type 0 where
  pub notes : List JournalNote
  pub reads : IsBookOf bytes [] [] b notes

-- the same with the credential of each file that holds one; an entry whose file holds none is left out with all under it, and there is a
-- line about it
pub record IsFilledBook (known : Files) (folder : List ℕ) (lines : List (List ℕ)) (written b : Book) : Type 0 where
  pub secrets : List Secret
  pub gathered : AreGathered known folder written.rows secrets lines
  pub has : HasSecrets written secrets b

-- that is served, the entries that are left out wait, and the lines are said
pub record IsServedHeld (known : Files) (folder bytes : List ℕ) (d : Demands) (old new : List SaidLine) (i : Inventories) : Type 0 where
  pub lines : List (List ℕ)
  pub written : Book
  pub book : Book
  pub is_written : IsWrittenBook bytes written
  pub filled : IsFilledBook known folder lines written book
  pub served : IsServedOf d book.text i.served
  pub named : i.named ≡ Some book.rows
  pub said : new ≡ old ++ map (said_as Alert SecretFile) lines

-- or nothing is, since what they hold does not go together
abbrev pub HoldsOrNot : Files → List ℕ → List ℕ → Demands → List SaidLine → List SaidLine → Option Inventories → Type 0
HoldsOrNot known folder bytes d old new None = new ≡ old
HoldsOrNot known folder bytes d old new (Some i) = IsServedHeld known folder bytes d old new i

-- then each has to hold a credential
abbrev pub ServesHeld : Files → List ℕ → List ℕ → Demands → List SaidLine → List SaidLine → Inventories → Type 0
ServesHeld known folder bytes d old new i = (IsServedWhole known folder bytes d i × (new ≡ old)) ⊎ IsServedHeld known folder bytes d old new i

-- ---- of FILE, by its path

-- where there is a state folder that cannot be used
pub record IsServedUnkept (known_file known : Files) (file : List ℕ) (d : Demands) (old new : List SaidLine) (i : Inventories) : Type 0 where
  pub bytes : List ℕ
  pub read : FileIsRead (known_file file) MOST_INVENTORY (Ok bytes)
  pub well : IsWellWritten d bytes
  pub held : ServesHeld known (folder_of file) bytes d old new i

abbrev pub ServesAlone : {K : Type 0} → Bool → Files → Files → List ℕ → Demands → Start K → Type 0
ServesAlone false known_file known file d s = IsServedFile known_file known file d s.inventories
ServesAlone true known_file known file d s = (first : SaidLine) × IsServedUnkept known_file known file d (first ∷ []) s.said.items s.inventories

-- what is served without a ledger; whether there is a folder, which then cannot be used
pub record IsServedAlone {K : Type 0} (has_folder : Bool) (known_file known : Files) (file : List ℕ) (d : Demands) (s : Start K) : Type 0 where
  pub serves : ServesAlone has_folder known_file known file d s
