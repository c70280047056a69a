-- A start whose file is faulty, or for which memory was wanting; and the rows that it begins with.
use Rattle.std.proofs.Common.{◌≡◌, ◌⊎◌, inl, inr, ℕ, List, [], Option, Some, None, sym, ap, subst}
use Rattle.state_changes.specs.{declared.change.Record.Record, declared.replaying.JournalNote.JournalNote, Replay.ReplayState, Replay.replayed, declared.secret.Secret.Secret}
use Rattle.state_store.specs.{declared.fault.FileFault.FileFault, declared.fault.FileFault.TheVariants.OutOfMemory, Stores.BookIsFrom}
use Rattle.state_store.specs.Books.{Book, IsBookIf, IsBookOf, IsFileFaultOf}

-- memory may be wanting for any file
pub no_memory : (file : Option (List ℕ)) (records : List Record) (secrets : List Secret) → IsFileFaultOf file records secrets OutOfMemory
no_memory None records secrets = tt
no_memory (Some bytes) records secrets = tt

-- the fault of the file, or lack of memory
pub or_memory : (file : Option (List ℕ)) (records : List Record) (secrets : List Secret) (fault why : FileFault) → IsFileFaultOf file records secrets fault → (why ≡ fault) ⊎ (why ≡ OutOfMemory) → IsFileFaultOf file records secrets why
or_memory file records secrets fault why is (inl same) = subst (IsFileFaultOf file records secrets) (sym same) is
or_memory file records secrets fault why is (inr same) = subst (IsFileFaultOf file records secrets) (sym same) (no_memory file records secrets)

-- the rows of a book are those of a replay
pub rows_of_book : (bytes : List ℕ) (records : List Record) (secrets : List Secret) (b : Book) (notes : List JournalNote) → IsBookOf bytes records secrets b notes → (replayed b.file records).rows ≡ b.rows
rows_of_book bytes records secrets b notes is = ap (λ (s : ReplayState). s.rows) is.rows

pub rows_if : (file : Option (List ℕ)) (records : List Record) (secrets : List Secret) (b : Book) (notes : List JournalNote) → IsBookIf file records secrets b notes → (replayed b.file records).rows ≡ b.rows
rows_if None records secrets b notes is = absurd is
rows_if (Some bytes) records secrets b notes is = rows_of_book bytes records secrets b notes is

pub rows_from : (file copy : Option (List ℕ)) (fault : Option FileFault) (records : List Record) (b : Book) (notes : List JournalNote) → BookIsFrom file copy fault records b notes → (replayed b.file records).rows ≡ b.rows
rows_from file copy None records b notes is = rows_if file records [] b notes is
rows_from file copy (Some fault) records b notes is = rows_if copy records [] b notes is.1

-- the copy stands for a file that is faulty
pub from_copy : (file copy : Option (List ℕ)) (told : Option FileFault) (fault : FileFault) (records : List Record) (b : Book) (notes : List JournalNote) → IsFileFaultOf file records [] fault → told ≡ Some fault → IsBookIf copy records [] b notes → BookIsFrom file copy told records b notes
from_copy file copy told fault records b notes is same book = subst (λ (f : Option FileFault). BookIsFrom file copy f records b notes) (sym same) (is, book)
