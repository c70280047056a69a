-- The line of a change, and why there is none.
use Rattle.std.proofs.Common.{◌≡◌, ◌≢◌, inl, inr, ℕ, Bool, true, false, not, ◌==◌, List, [], ◌∷◌, Option, Some, None, Ok, refl, sym, ap, ◌∙◌, subst}
use Rattle.std.proofs.lemmas.Bool.{and_parts, true≢false}
use Rattle.std.specs.{Cmp.Lexicographic.bytes_decides, List.list_all}
use Rattle.state_changes.specs.{declared.change.Change.Change, declared.change.Record.Record, declared.change.ChangeKind.ChangeKind, declared.fault.ChangeFault.ChangeFault, declared.fault.ChangeFault.TheVariants.OutOfMemory}
use Rattle.state_changes.specs.{declared.replaying.File.File, declared.row.Row.Row, Replay.is_as_then, Said.said}
use Rattle.state_changes.specs.declared.change.Record.TheVariants.{Made, Settling}
use Rattle.state_changes.specs.Changes.{IsWhy, change_refusal, rows_changed, rows_unless, rows_with_change}
use Rattle.state_changes.specs.Records.{IsRecord, record_of, record_text}
use Rattle.state_changes.proofs.{Found.read_is_written, ReadBack.line_law, ReadBack.written_is_read}
use Rattle.base_journal.specs.Records.{IsRecordLine}
use Rattle.base_words.specs.Laws.{Lacks}
use Rattle.base_disk.specs.declared.fault.DiskFault.{DiskFault}
use Rattle.base_disk.specs.declared.fault.DiskFault.TheVariants as disks
use Rattle.state_file.specs.declared.fault.SettleFault.{SettleFault}
use Rattle.state_file.specs.declared.fault.SettleFault.TheVariants as settles
use Rattle.state_store.specs.{declared.fault.TakeFault.TakeFault, Books.Book}
use Rattle.state_store.specs.declared.fault.TakeFault.TheVariants.{Unread, NoRecord, Refused, Unwritten, Disk, Unsure}
use Rattle.state_store.specs.Entering.{IsReadAs, IsWhyNot, IsWhyUnhandedAfter, line_for_change, may_hold, record_for}
use Rattle.state_store.specs.code.Entered.{IsRecorded, IsUnhanded, IsUnmade, IsUnrecorded}
use Rattle.state_store.specs.code.Faults.{change_in, unkept, unmade, unwritten}
use Rattle.state_store.specs.declared.fault.TakeFault.TheVariants as takes

-- no line feed stands in a text that lacks it
pub lacking : (text : List ℕ) → Lacks 10 text → IsRecordLine text
lacking [] lacks = tt
lacking (b ∷ bs) lacks = (λ is. absurd (true≢false (sym (parts b bs lacks).0 ∙ ap (λ (k : ℕ). not (k == 10)) is)), lacking bs (parts b bs lacks).1)
  where
    parts : (x : ℕ) (xs : List ℕ) → Lacks 10 (x ∷ xs) → (not (x == 10) ≡ true) × Lacks 10 xs
    parts x xs all = and_parts (not (x == 10)) (list_all (λ y. not (y == 10)) xs) all

-- a line in which a record is read is that record's, and one line
read_line : (text : List ℕ) (r : Record) → record_of text ≡ Some r → IsRecordLine text
read_line text r is = subst IsRecordLine (sym (read_is_written text r is).1) (lacking (record_text r) (line_law r (read_is_written text r is).0))

same_some : (c d : Change) → Some c ≡ Some d → c ≡ d
same_some c d e = cc

pub same_record : (r s : Record) → Some r ≡ Some s → r ≡ s
same_record r s e = cc

pub same_change : (c d : Change) → Made c ≡ Made d → c ≡ d
same_change c d e = cc

-- the change that is read in a line
change_read : (o : Option Record) (c : Change) → change_in o ≡ Some c → o ≡ Some (Made c)
change_read None c e = cc
change_read (Some (Made d)) c e = ap (λ (x : Change). Some (Made x)) (same_some d c e)
change_read (Some (Settling mark)) c e = cc

pub recorded_is : (b : Book) (name : List ℕ) (w : ChangeKind) (line : List ℕ) (c : Change) → line ≡ line_for_change b.file name w → change_in (record_of line) ≡ Some c → is_as_then b.file.rows c ≡ true → IsRecorded b name w line c
recorded_is b name w line c is read same = record {
  line_is = is;
  is_line = read_line line (Made c) (change_read (record_of line) c read);
  read = ap record_of (sym is) ∙ change_read (record_of line) c read;
  as_then = same;
}

-- a record is read in its line: so where no change is, or another, it is none that a journal can write
pub not_read : (f : File) (name : List ℕ) (w : ChangeKind) (line : List ℕ) → line ≡ line_for_change f name w → change_in (record_of line) ≡ None → IsRecord (record_for f name w) → ⊥
unfolding line_for_change
not_read f name w line at none is = let read = ap change_in (ap record_of at ∙ written_is_read (record_for f name w) is) in cc

as_then_self : (f : File) (name : List ℕ) (w : ChangeKind) → is_as_then f.rows (record { name = name; was = said f.rows name w; what = w }) ≡ true
unfolding is_as_then
as_then_self f name w = (bytes_decides (said f.rows name w) (said f.rows name w)).1 refl

-- and where the change that is read is none that a replay makes, too
pub not_then : (f : File) (name : List ℕ) (w : ChangeKind) (line : List ℕ) (c : Change) → line ≡ line_for_change f name w → change_in (record_of line) ≡ Some c → is_as_then f.rows c ≡ false → IsRecord (record_for f name w) → ⊥
unfolding line_for_change
not_then f name w line c at read differs is =
    let d : Change = record { name = name; was = said f.rows name w; what = w } in
    let same : d ≡ c = same_change d c (same_record (Made d) (Made c) (sym (ap record_of at ∙ written_is_read (record_for f name w) is) ∙ change_read (record_of line) c read)) in
    true≢false (sym (as_then_self f name w) ∙ ap (is_as_then f.rows) same ∙ differs)

-- ---- why a change is not made

why_refused : (o : Option ChangeFault) (w : ChangeKind) (fault : ChangeFault) → IsWhy o w fault → fault ≢ OutOfMemory → o ≡ Some fault
why_refused o w fault (inl e) some = e
why_refused o w fault (inr e) some = absurd (some e.2)

pub refused_unmade : (b : Book) (c : Change) (fault : ChangeFault) → IsWhy (change_refusal b.file.margin b.rows c.name c.what) c.what fault → IsUnmade b c (unmade fault)
refused_unmade b c OutOfMemory why = tt
refused_unmade b c fault why = why_refused (change_refusal b.file.margin b.rows c.name c.what) c.what fault why (λ same. cc)

unless_ok : (rows new : List Row) (o : Option ChangeFault) → rows_unless rows o ≡ Ok new → o ≡ None
unless_ok rows new None e = refl
unless_ok rows new (Some fault) e = cc

-- one that can be made is not refused
pub made_unrefused : (margin : ℕ) (rows new : List Row) (name : List ℕ) (w : ChangeKind) → rows_changed margin rows name w ≡ Ok new → change_refusal margin rows name w ≡ None
unfolding rows_changed
made_unrefused margin rows new name w e = unless_ok (rows_with_change rows name w) new (change_refusal margin rows name w) e

-- but what is handed then may not be written
unwritten_unmade : (b : Book) (c : Change) (why : SettleFault) → IsWhyUnhandedAfter b c why → IsUnmade b c (unwritten why)
unwritten_unmade b c settles.OutOfMemory is = tt
unwritten_unmade b c why is = is

pub unhanded_unmade : (b : Book) (c : Change) (rows : List Row) (fault : TakeFault) → rows_changed b.file.margin b.rows c.name c.what ≡ Ok rows → IsUnhanded b rows fault → IsUnmade b c fault
unhanded_unmade b c rows fault made (why, (same, is)) = subst (IsUnmade b c) (sym same) (unwritten_unmade b c why (rows, (made, is)))

-- what is unrecorded or unmade is not taken
pub unrecorded_why : (b : Book) (name : List ℕ) (w : ChangeKind) (fault : TakeFault) → IsUnrecorded b name w fault → IsWhyNot b name w fault
unrecorded_why b name w Unread why = absurd why
unrecorded_why b name w NoRecord why = why
unrecorded_why b name w (Refused fault) why = absurd why
unrecorded_why b name w (Unwritten fault) why = absurd why
unrecorded_why b name w (Disk fault) why = absurd why
unrecorded_why b name w (Unsure fault) why = absurd why
unrecorded_why b name w takes.OutOfMemory why = tt

pub unmade_why : (b : Book) (name : List ℕ) (w : ChangeKind) (c : Change) (fault : TakeFault) → IsReadAs b.file name w c → IsUnmade b c fault → IsWhyNot b name w fault
unmade_why b name w c Unread read why = absurd why
unmade_why b name w c NoRecord read why = absurd why
unmade_why b name w c (Refused fault) read why = (c, (read, why))
unmade_why b name w c (Unwritten fault) read why = (c, (read, why))
unmade_why b name w c (Disk fault) read why = absurd why
unmade_why b name w c (Unsure fault) read why = absurd why
unmade_why b name w c takes.OutOfMemory read why = tt

-- nor is what the disk has not kept
pub unkept_why : (b : Book) (name : List ℕ) (w : ChangeKind) (c : Change) (fault : DiskFault) (may : Bool) → IsReadAs b.file name w c → change_refusal b.file.margin b.rows c.name c.what ≡ None → IsWhyNot b name w (unkept fault may)
unkept_why b name w c fault true read is = (c, (read, is))
unkept_why b name w c disks.OutOfMemory false read is = tt
unkept_why b name w c (disks.Failed why) false read is = (c, (read, is))
unkept_why b name w c disks.TooLong false read is = (c, (read, is))

-- the disk has nothing of it unless the journal says that it may
pub surely : (fault : DiskFault) (may : Bool) → may_hold (unkept fault may) ≡ false → may ≡ false
surely fault true is = is
surely fault false is = refl
