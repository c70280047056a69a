-- Words for a file that is about to become what is kept, and for the records that it holds then. No public clause cites them.
-- Source: this project's own.
use Rattle.std.specs.Prelude.{◌≡◌, ℕ, Bool, false, List, is_some, map, string_bytes}
use Rattle.std.specs.Str.{bytes_eq}
use Rattle.state_changes.specs.{Records.record_of, Words.fingerprint}
use Rattle.vault_inventory.specs.Served.{Served}
use Rattle.base_journal.specs.Records.{IsRecordLine}
use Rattle.state_store.specs.{declared.settling.Moving.Moving, Books.Book}
use Rattle.state_store.specs.Moved.{IsMovedBook, SaysAllKept, mark_line}

-- its text says all that is kept, which is another than the file has; the line is that of its mark; and the book is that of it
pub record IsMoving (b : Book) (m : Moving) : Type 0 where
  pub served : Served
  pub says : SaysAllKept b (string_bytes m.text) served
  pub other : bytes_eq (fingerprint (string_bytes m.text)) b.file.mark ≡ false
  pub line_is : m.line ≡ mark_line (string_bytes m.text)
  pub is_line : IsRecordLine m.line
  pub book : IsMovedBook b (string_bytes m.text) served m.book

-- of each line, whether it writes a record
unfoldable pub written : List (List ℕ) → List Bool
written lines = map (λ line. is_some (record_of line)) lines
