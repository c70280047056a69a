-- Laws of what is kept. Each is the contract of a public function without a body.
use Rattle.std.specs.Prelude.{◌≡◌, ℕ, false, List, [], ◌∷◌, ◌++◌}
use Rattle.std.specs.Str.{bytes_eq}
use Rattle.state_changes.specs.{declared.change.Change.Change, declared.change.ChangeKind.ChangeKind, declared.replaying.File.File, declared.replaying.JournalNote.JournalNote, Records.IsRecord, Replay.replayed, Said.said, Words.fingerprint}
use Rattle.state_changes.specs.{declared.secret.Secret.Secret}
use Rattle.vault_inventory.specs.Served.{Served}
use Rattle.state_file.specs.Laws.{GivesRows}
use Rattle.state_store.specs.{declared.store.Store.Store, Entering.IsReadAs, Entering.record_for, Moved.SaysAllKept, Moved.mark_line, Records.records_in}
use Rattle.state_store.specs.Books.{Book, IsBookOf, file_of}
use Rattle.state_store.specs.Stores.{IsReplayed, book_of, lines_in}

-- the change that is made is the one that was given, beside what the file says of it, where a journal can write that
abbrev pub AsGivenLaw : Type 0
AsGivenLaw = (f : File) (name : List ℕ) (w : ChangeKind) (c : Change) → IsRecord (record_for f name w) → IsReadAs f name w c → c ≡ record { name = name; was = said f.rows name w; what = w }

-- a start on the same file, over a journal with the same lines, gives the same rows
abbrev pub RestartLaw : Type 0
RestartLaw =
    (store : Store) → IsReplayed store → (bytes : List ℕ) (secrets : List Secret) (b : Book) (notes : List JournalNote)
    → IsBookOf bytes (records_in (lines_in store)) secrets b notes → b.file ≡ (book_of store).file → b.rows ≡ (book_of store).rows

-- Once a file has the text that says all that is kept, it gives those rows in the order of a file, without a note: with the lines and
-- the mark of that text, and with none. As long as the old file is there, the mark changes nothing of the rows.
abbrev pub MovedLaw : Type 0
MovedLaw =
    (store : Store) → IsReplayed store → (text : List ℕ) (v : Served) → SaysAllKept (book_of store) text v
    → GivesRows (file_of text v) (book_of store).rows (records_in (lines_in store ++ mark_line text ∷ []))
    × GivesRows (file_of text v) (book_of store).rows (records_in [])
    × (bytes_eq (fingerprint text) (book_of store).file.mark ≡ false
    → (replayed (book_of store).file (records_in (lines_in store ++ mark_line text ∷ []))).rows ≡ (book_of store).rows)
