-- Alone: what is served without a ledger where the state folder cannot be used, step by step. For `read_with_held`, `held` and their kin.
use Rattle.std.proofs.Common.{◌≡◌, ◌++◌, ℕ, List, [], Some, Result, Ok, Err, IfOk, inl, inr, map, subst}
use Rattle.std.proofs.Math.Path.{fun_ext}
use Rattle.std.specs.declared.alloc.AllocError.{AllocError}
use Rattle.agent_words.specs.{Gathering.AreGathered, Reading.IsWellWritten, Reading.IsWide, declared.demands.Demands.Demands, declared.said.About.TheVariants.SecretFile, declared.said.SaidLine.SaidLine}
use Rattle.state_changes.specs.{declared.replaying.JournalNote.JournalNote, declared.row.Row.Row, declared.secret.Secret.Secret}
use Rattle.base_files.specs.Files.{FileIsRead, Files}
use Rattle.vault_inventory.specs.{Inventories.Inventory, declared.limits.TheConstants.MOST_INVENTORY}
use Rattle.base_log.specs.declared.level.Level.TheVariants.{Alert}
use Rattle.program_report.specs.declared.exit.Exit.{Exit}
use Rattle.vault_served.specs.ForGood.{inventory_for_good}
use Rattle.state_store.specs.Books.{Book, HasSecrets, IsBookOf}
use Rattle.agent_start.specs.Starts.{IsServedOf}
use Rattle.agent_start.specs.Alone.{IsFilledBook, IsServedHeld, IsServedUnkept, IsWrittenBook, ServesHeld}
use Rattle.agent_system.specs.{Saying.said_as, Whole.IsServedWhole, Whole.folder_of, declared.reading.Inventories.Inventories}

-- ---- of bytes of FILE

-- what files hold was read before, and they hold the same
pub whole_after : (known other : Files) (folder bytes : List ℕ) (d : Demands) (old new : List SaidLine) (result : Result Inventories Exit) → ((path : List ℕ) → other path ≡ known path) → new ≡ old →
    IfOk result (IsServedWhole other folder bytes d) → IfOk result (ServesHeld known folder bytes d old new)
whole_after known other folder bytes d old new (Ok i) same silent whole = inl (subst (λ (f : Files). IsServedWhole f folder bytes d i) (fun_ext same) whole, silent)
whole_after known other folder bytes d old new (Err exit) same silent whole = tt

pub held_so : (known : Files) (folder other bytes text : List ℕ) (d : Demands) (old new : List SaidLine) (i : Inventories) → other ≡ folder → text ≡ bytes → IsServedHeld known other text d old new i → ServesHeld known folder bytes d old new i
held_so known folder other bytes text d old new i same is held =
    inr (subst (λ b. IsServedHeld known folder b d old new i) is (subst (λ f. IsServedHeld known f text d old new i) same held))

pub is_written : (bytes : List ℕ) (b : Book) (notes : List JournalNote) → IsBookOf bytes [] [] b notes → IsWrittenBook bytes b
is_written bytes b notes reads = record { notes = notes; reads = reads }

pub is_served_of : (d : Demands) (text other : List ℕ) (narrow : Inventory) (result : Result Inventory AllocError) → other ≡ text → inventory_for_good text ≡ Ok narrow → IfOk result (IsWide d other narrow) → IfOk result (IsServedOf d text)
is_served_of d text other narrow (Ok inventory) same reads wide = (narrow, (reads, subst (λ t. IsWide d t narrow inventory) same wide))
is_served_of d text other narrow (Err e) same reads wide = tt

-- the credentials of the files were gathered, and the book took them
pub is_filled : (known : Files) (folder : List ℕ) (lines : List (List ℕ)) (written book : Book) (rows : List Row) (secrets : List Secret) → rows ≡ written.rows → AreGathered known folder rows secrets lines → HasSecrets written secrets book → IsFilledBook known folder lines written book
is_filled known folder lines written book rows secrets same gathered has = record { secrets = secrets; gathered = subst (λ rs. AreGathered known folder rs secrets lines) same gathered; has = has }

pub is_held :
    (known : Files) (folder bytes : List ℕ) (d : Demands) (old new : List SaidLine) (i : Inventories) (written book : Book) (lines : List (List ℕ)) → IsWrittenBook bytes written → IsFilledBook known folder lines written book → IsServedOf d book.text i.served → i.named ≡ Some book.rows →
    new ≡ old ++ map (said_as Alert SecretFile) lines → IsServedHeld known folder bytes d old new i
is_held known folder bytes d old new i written book lines is_written filled served named said =
    record {
      lines = lines;
      written = written;
      book = book;
      is_written = is_written;
      filled = filled;
      served = served;
      named = named;
      said = said;
    }

-- ---- of FILE, by its path

pub unkept_served :
    (known_file known : Files) (file bytes : List ℕ) (d : Demands) (old new : List SaidLine) (result : Result Inventories Exit) → FileIsRead (known_file file) MOST_INVENTORY (Ok bytes) → IsWellWritten d bytes → IfOk result (ServesHeld known (folder_of file) bytes d old new) →
    IfOk result (IsServedUnkept known_file known file d old new)
unkept_served known_file known file bytes d old new (Ok i) read well held = record { bytes = bytes; read = read; well = well; held = held }
unkept_served known_file known file bytes d old new (Err exit) read well held = tt
