-- A change that was taken, or not, beside its journal on a disk.
use Rattle.std.proofs.Common.{◌≡◌, ℕ, List, [], ◌∷◌, ◌++◌, true, false, Result, Ok, refl, sym, ap, subst, ◌∙◌}
use Rattle.std.specs.Prelude.{string_bytes}
use Rattle.state_changes.specs.{declared.change.ChangeKind.ChangeKind, declared.fault.ChangeFault.ChangeFault, declared.row.Row.Row, Records.record_of, Replay.replayed}
use Rattle.base_disk.specs.State as disks
use Rattle.base_journal.specs.Journals.{KeepsOthers}
use Rattle.state_store.specs.{declared.entering.Entered.Entered, declared.store.Store.Store, declared.fault.TakeFault.TakeFault, Books.Book, Entering.IsWhyNot, Records.records_in, code.Entered.IsEntered, code.Faults.IsUnkept}
use Rattle.state_store.specs.declared.fault.TakeFault.TheVariants.{Unread, NoRecord, Refused, Unwritten, Disk, Unsure}
use Rattle.state_store.specs.Stores.{IsReplayed, IsWhyUntaken, book_of, is_sure, lines_in}
use Rattle.state_store.specs.declared.fault.TakeFault.TheVariants as takes
use Rattle.state_store.proofs.{Entered.made_unrefused, Entered.unkept_why, Replayed.taken_rows}

pub others_stay : (path : List ℕ) (s : disks.DiskState) → KeepsOthers path s s
others_stay path s = record { seen = λ other apart. refl; sound = λ other apart. refl }

-- a change is not taken beside a file of which the store is sure, or because it is not
pub why_untaken : (store : Store) (name : List ℕ) (w : ChangeKind) (fault : TakeFault) → is_sure store ≡ true → IsWhyNot (book_of store) name w fault → IsWhyUntaken store name w fault
why_untaken store name w Unread sure why = absurd why
why_untaken store name w NoRecord sure why = (sure, why)
why_untaken store name w (Refused fault) sure why = (sure, why)
why_untaken store name w (Unwritten fault) sure why = (sure, why)
why_untaken store name w (Disk fault) sure why = (sure, why)
why_untaken store name w (Unsure fault) sure why = (sure, why)
why_untaken store name w takes.OutOfMemory sure why = (sure, why)

pub unread_why : (store : Store) (name : List ℕ) (w : ChangeKind) (fault : TakeFault) → fault ≡ Unread → is_sure store ≡ false → IsWhyUntaken store name w fault
unread_why store name w fault same unsure = subst (IsWhyUntaken store name w) (sym same) unsure

-- the book has the rows and the text of the change, and the journal has its line
module _ (old new : Store) (name : List ℕ) (w : ChangeKind) (e : Entered) (is : IsEntered (book_of old) name w e) (booked : book_of new ≡ record (book_of old) { rows = e.rows; text = string_bytes e.text })
    (lined : lines_in new ≡ lines_in old ++ e.line ∷ []) where
  pub goes_on_replaying : IsReplayed old → IsReplayed new
  goes_on_replaying so =
      ap (λ (b : Book). (replayed b.file (records_in (lines_in new))).rows) booked
      ∙ ap (λ (ls : List (List ℕ)). (replayed (book_of old).file (records_in ls)).rows) lined
      ∙ taken_rows (book_of old).file (lines_in old) e.line is.change (book_of old).rows e.rows so (ap record_of is.recorded.line_is ∙ is.recorded.read) is.recorded.as_then is.made.made
      ∙ ap (λ (b : Book). b.rows) (sym booked)

-- with the same book and lines the rows are those of the same replay
pub same_replays : (old new : Store) → IsReplayed old → book_of new ≡ book_of old → lines_in new ≡ lines_in old → IsReplayed new
same_replays old new so booked lined =
    ap (λ (b : Book). (replayed b.file (records_in (lines_in new))).rows) booked
    ∙ ap (λ (ls : List (List ℕ)). (replayed (book_of old).file (records_in ls)).rows) lined
    ∙ so ∙ ap (λ (b : Book). b.rows) (sym booked)

-- the disk is the last that can refuse a change
pub unkept_untaken : (store : Store) (name : List ℕ) (w : ChangeKind) (e : Entered) (fault : TakeFault) → is_sure store ≡ true → IsEntered (book_of store) name w e → IsUnkept fault → IsWhyUntaken store name w fault
unkept_untaken store name w e fault sure is (why, may_have, same) =
    why_untaken store name w fault sure
    (subst (IsWhyNot (book_of store) name w) (sym same)
    (unkept_why (book_of store) name w is.change why may_have is.recorded.read
    (made_unrefused (book_of store).file.margin (book_of store).rows e.rows is.change.name is.change.what is.made.made)))
