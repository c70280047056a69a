-- A file that becomes what is kept, or not, beside its journal on a disk.
use Rattle.std.proofs.Common.{◌≡◌, ◌⊎◌, inl, inr, ℕ, ◌≤◌, false, List, [], ◌∷◌, ◌++◌, Result, Ok, Err, OnOk, OnErr, sym, ap, subst, ◌∙◌}
use Rattle.std.specs.Prelude.{string_bytes}
use Rattle.std.specs.Str.{bytes_eq}
use Rattle.state_changes.specs.{declared.change.Record.Record, declared.replaying.File.File, Replay.ReplayState, Replay.replayed}
use Rattle.base_disk.specs.Image as images
use Rattle.base_disk.specs.{Image.Image, Torn.MovesFile}
use Rattle.base_disk.specs.State as disks
use Rattle.base_disk.proofs.Moments.{weaker}
use Rattle.base_journal.specs.{declared.journal.Journal.Journal, Records.IsBeforeOrAfter, Records.IsRecordLine}
use Rattle.vault_inventory.specs.Served.{Served}
use Rattle.base_journal.specs.Journals as journals
use Rattle.state_store.specs.{declared.settling.Moving.Moving, declared.store.Store.Store, Books.Book, Books.file_of, Compacted.damaged, Records.records_in, code.Moving.IsMoving}
use Rattle.state_store.specs.Moved.{IsMovedBook, LeftByMove, Marking, SaysAllKept, SaysAlready, SaysByItself, mark_line}
use Rattle.state_store.specs.Stores.{IsReplayed, book_of, lines_in, path_of_store}
use Rattle.state_store.proofs.{Staying.damaged_records, Lists.records_none, Marked.mark_is_line, Marked.moved_law, Marking.marked_leaves}

-- the text that is read of a book that says all is the one that the file has
pub says_already : (b m : Book) (text : List ℕ) (v : Served) → SaysAllKept b text v → IsMovedBook b text v m → m.file.mark ≡ b.file.mark → SaysAlready b
says_already b m text v says is same = (text, v, says, sym (ap (λ (f : File). f.mark) is.file) ∙ same)

-- or it is another one
pub is_moving : (b : Book) (m : Moving) (v : Served) → SaysAllKept b (string_bytes m.text) v → IsMovedBook b (string_bytes m.text) v m.book → bytes_eq m.book.file.mark b.file.mark ≡ false → m.line ≡ mark_line (string_bytes m.text) → IsMoving b m
is_moving b m v says is other line = record {
  served = v;
  says = says;
  other = ap (λ (f : File). bytes_eq f.mark b.file.mark) (sym is.file) ∙ other;
  line_is = line;
  is_line = subst IsRecordLine (sym line) (mark_is_line (string_bytes m.text));
  book = is;
}

module _ (old : Store) (m : Moving) (is : IsMoving (book_of old) m) where
  module _ (new : Store) where
    -- with the mark or without it the old file gives the same rows
    pub marked_replays : IsReplayed old → book_of new ≡ book_of old → (lines_in new ≡ lines_in old) ⊎ (lines_in new ≡ lines_in old ++ m.line ∷ []) → IsReplayed new
    marked_replays so booked (inl same) =
        ap (λ (b : Book). (replayed b.file (records_in (lines_in new))).rows) booked
        ∙ ap (λ (ls : List (List ℕ)). (replayed (book_of old).file (records_in ls)).rows) same
        ∙ so ∙ ap (λ (b : Book). b.rows) (sym booked)
    marked_replays so booked (inr one) =
        ap (λ (b : Book). (replayed b.file (records_in (lines_in new))).rows) booked
        ∙ ap (λ (ls : List (List ℕ)). (replayed (book_of old).file (records_in ls)).rows) (one ∙ ap (λ (l : List ℕ). lines_in old ++ l ∷ []) is.line_is)
        ∙ (moved_law old so (string_bytes m.text) is.served is.says).2 is.other ∙ ap (λ (b : Book). b.rows) (sym booked)

    -- and so does the new file, with the mark
    pub moved_replays : IsReplayed old → book_of new ≡ m.book → lines_in new ≡ lines_in old ++ m.line ∷ [] → IsReplayed new
    moved_replays so booked one =
        ap (λ (b : Book). (replayed b.file (records_in (lines_in new))).rows) booked
        ∙ ap (λ (ls : List (List ℕ)). (replayed m.book.file (records_in ls)).rows) (one ∙ ap (λ (l : List ℕ). lines_in old ++ l ∷ []) is.line_is)
        ∙ ap (λ (f : File). (replayed f (records_in (lines_in old ++ mark_line (string_bytes m.text) ∷ []))).rows) is.book.file
        ∙ ap (λ (s : ReplayState). s.rows) (moved_law old so (string_bytes m.text) is.served is.says).0
        ∙ sym is.book.rows ∙ ap (λ (b : Book). b.rows) (sym booked)

    -- or by itself
    pub says_by_itself : IsReplayed old → book_of new ≡ m.book → SaysByItself new
    says_by_itself so booked =
        ap (λ (b : Book). (replayed b.file []).rows) booked
        ∙ ap (λ (f : File). (replayed f []).rows) is.book.file
        ∙ ap (λ (rs : List Record). (replayed (file_of (string_bytes m.text) is.served) rs).rows) (sym records_none)
        ∙ ap (λ (s : ReplayState). s.rows) (moved_law old so (string_bytes m.text) is.served is.says).1
        ∙ sym is.book.rows ∙ ap (λ (b : Book). b.rows) (sym booked)

-- where the records are taken out of the journal then, or it is left as it was, the rows are the same
pub handed_replays : {X E : Type 0} (r : Result X E) (old new : Store) → SaysByItself old → IsReplayed old → book_of new ≡ book_of old → OnOk r (lines_in new ≡ damaged (lines_in old))
    → OnErr r (lines_in new ≡ lines_in old) → IsReplayed new
handed_replays (Ok x) old new says so booked taken same =
    ap (λ (b : Book). (replayed b.file (records_in (lines_in new))).rows) booked
    ∙ ap (λ (ls : List (List ℕ)). (replayed (book_of old).file (records_in ls)).rows) taken
    ∙ ap (λ (rs : List Record). (replayed (book_of old).file rs).rows) (damaged_records (lines_in old))
    ∙ says ∙ ap (λ (b : Book). b.rows) (sym booked)
handed_replays (Err e) old new says so booked taken same =
    ap (λ (b : Book). (replayed b.file (records_in (lines_in new))).rows) booked
    ∙ ap (λ (ls : List (List ℕ)). (replayed (book_of old).file (records_in ls)).rows) same
    ∙ so ∙ ap (λ (b : Book). b.rows) (sym booked)

-- what is left once the mark is put and the file takes its place
module _ (old : Store) (m : Moving) (is : IsMoving (book_of old) m) (target : List ℕ) (mode : ℕ) (apart : bytes_eq (path_of_store old) target ≡ false) (s t u : disks.DiskState)
    (put : disks.LeavesOnly s t (journals.CrashLeaves (path_of_store old) (IsBeforeOrAfter (lines_in old) m.line) s))
    (counts : (n : ℕ) (c : Image) → n ≤ t.moment → t.may_leave c → t.left_since n c) (journal : Journal) (path : journals.path_of_journal journal ≡ path_of_store old)
    (lines : journals.lines_of_journal journal ≡ lines_in old ++ m.line ∷ []) (whole : journals.JournalIsWhole journal t) (bytes : List ℕ) (text : bytes ≡ string_bytes m.text)
    (placed : disks.LeavesOnly t u (disks.IsAfter (MovesFile target (record { mode = mode; bytes = bytes })) t)) where
  pub marked_then : disks.LeavesOnly s u (LeftByMove old target mode s)
  marked_then =
      let mark = mark_line (string_bytes m.text) in
      let file : images.File = record { mode = mode; bytes = string_bytes m.text } in
      let first = subst (λ (l : List ℕ). disks.LeavesOnly s t (journals.CrashLeaves (path_of_store old) (IsBeforeOrAfter (lines_in old) l) s)) is.line_is put in
      let second = subst (λ (b : List ℕ). disks.LeavesOnly t u (disks.IsAfter (MovesFile target (record { mode = mode; bytes = b })) t)) text placed in
      let rest = subst (λ (p : List ℕ). journals.JournalIsAtRest p (lines_in old ++ mark ∷ []) journal.size t) path
      (subst (λ (l : List (List ℕ)). journals.JournalIsAtRest (journals.path_of_journal journal) l journal.size t) (lines ∙ ap (λ (l : List ℕ). lines_in old ++ l ∷ []) is.line_is) whole) in
      weaker s u (Marking (path_of_store old) target file (lines_in old) mark s) (LeftByMove old target mode s)
      (marked_leaves (path_of_store old) target file (lines_in old) mark apart s journal.size t u first counts rest second)
      (λ d left. inr (string_bytes m.text, is.served, is.says, left))
