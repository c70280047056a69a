-- Recorded: a change that was taken is on the disk, whatever a crash leaves. For `whoever_is_told_ok_has_it`.
use Rattle.std.proofs.Common.{◌≡◌, ◌∙◌, ◌⊎◌, ℕ, suc, ◌≤◌, Bool, true, false, ◌&&◌, IsTrue, inl, inr, List, [], ◌∷◌, ◌++◌, length, option_to_list, slice_index, Option, Some, None, Result, Ok, ap, append-nil, arith, refl, subst, sym}
use Rattle.std.proofs.lemmas.List.Elements.{Contains-push}
use Rattle.std.specs.List.{Contains}
use Rattle.agent_answers.specs.declared.asked.ClientOrder.{ClientOrder}
use Rattle.agent_answers.specs.declared.asked.ClientOrder.TheVariants as asked
use Rattle.vault_asking.specs.Sending.{Lanes}
use Rattle.state_changes.specs.{declared.change.Record.Record, declared.change.ChangeKind.ChangeKind, declared.row.Row.Row, declared.replaying.File.File, declared.replaying.JournalNote.JournalNote, Records.record_of, Words.fingerprint}
use Rattle.state_changes.specs.{declared.secret.Secret.Secret}
use Rattle.state_changes.specs.declared.change.Record.TheVariants.{Made, Settling}
use Rattle.state_changes.specs.Compaction.{is_need, is_void, voids}
use Rattle.state_changes.specs.declared.change.ChangeKind.TheVariants as what
use Rattle.base_disk.specs.Image as images
use Rattle.base_disk.specs.{Image.Image, State.DiskState}
use Rattle.base_journal.specs.Journals.{CrashLeaves, FileIsThere, JournalIsWhole, bytes_of_file}
use Rattle.base_journal.specs.Records.{AreLines, StandsFor, at_rest, lines_kept}
use Rattle.base_journal.proofs.Steps.{at_end}
use Rattle.state_secrets.specs.Stamps.{FileCall}
use Rattle.state_keeping.specs.{Places.Places, Reading.IsFileAt, declared.reading.FileRead.FileRead}
use Rattle.state_keeping.specs.Settles.{IsSettledIf, LeavesAloneIf, copy_with, mode_of}
use Rattle.state_keeping.specs.States.{Kept, book_in, store_in}
use Rattle.state_store.specs.{Books.Book, Books.IsBookIf, Compacted.compacted_lines, Entering.line_for_change, Moved.SaysAlready, Records.records_in, declared.store.Store.Store}
use Rattle.state_store.specs.Stores.{book_of, journal_of, lines_in, path_of_store}
use Rattle.state_store.proofs.{Lists.records_push, Staying.damaged_records}
use Rattle.agent_words.specs.{Outcomes.Why, declared.reread.Reread.Reread}
use Rattle.agent_ledger.specs.{declared.late.Late.Late, declared.late.Shut.Shut, declared.ledger.Ledger.Ledger, Rereading.AreBytesOf}
use Rattle.agent_ledger.specs.Keeping.{KeepCall, Reload, Settle, Take}
use Rattle.agent_ledger.specs.Lates.{DoesLate, ReadsLate, TakesShut}
use Rattle.agent_ledger.specs.Ledgers.{AreCompacted, DoesLedger, IsTakenOn, ReadsTable}
use Rattle.agent_ledger.specs.declared.late.Late.TheVariants.{Open, NotYet}
use Rattle.agent_laws.specs.Acknowledged.{FileHasAll, FileSaysAll, HasRecord, IsDone, IsDoneUnkept, IsKept, IsOnDisk, IsReread}
use Rattle.agent_laws.proofs.Owed.{AreDone, IsChangeOf}

-- ---- the last line of a journal stays where those are taken out that are void

more : {X : Type 0} (x y : X) (xs : List X) → Contains xs y → Contains (x ∷ xs) y
more x y xs h = (let within = h.1 in (suc h.0, omega (arith, within), h.2))

-- where fewer are marked
past_kept : (lines : List (List ℕ)) (line : List ℕ) (outs : List Bool) → length outs ≤ length lines → Contains (lines_kept (lines ++ line ∷ []) outs) line
past_kept [] line [] few = (0, omega arith, refl)
past_kept [] line (out ∷ outs) few = absurd (omega (arith, few))
past_kept (l ∷ lines) line [] few = Contains-push (l ∷ lines) line
past_kept (l ∷ lines) line (true ∷ outs) few = past_kept lines line outs (omega (arith, few))
past_kept (l ∷ lines) line (false ∷ outs) few = more l line _ (past_kept lines line outs (omega (arith, few)))

-- or the last mark is none
last_kept : (lines : List (List ℕ)) (line : List ℕ) (outs : List Bool) → length outs ≤ length lines → Contains (lines_kept (lines ++ line ∷ []) (outs ++ false ∷ [])) line
last_kept [] line [] few = (0, omega arith, refl)
last_kept [] line (out ∷ outs) few = absurd (omega (arith, few))
last_kept (l ∷ lines) line [] few = more l line _ (past_kept lines line [] (omega arith))
last_kept (l ∷ lines) line (true ∷ outs) few = last_kept lines line outs (omega (arith, few))
last_kept (l ∷ lines) line (false ∷ outs) few = more l line _ (last_kept lines line outs (omega (arith, few)))

length_nil : {X : Type 0} (xs : List X) → length (xs ++ []) ≡ length xs
length_nil xs = ap length (append-nil xs)

and_no : (b : Bool) → (b && false) ≡ false
and_no true = refl
and_no false = refl

last_void : (r : Record) → is_void r [] ≡ false
last_void (Made c) = and_no (is_need c.what)
last_void (Settling mark) = refl

-- a mark for each record, and none for the last
voids_last : (rs : List Record) (r : Record) → (outs : List Bool) × (length outs ≡ length rs) × (voids (rs ++ r ∷ []) ≡ outs ++ false ∷ [])
unfolding voids
voids_last [] r = ([], refl, ap (λ (b : Bool). b ∷ []) (last_void r))
voids_last (x ∷ rs) r = (let rest = voids_last rs r in (is_void x (rs ++ r ∷ []) ∷ rest.0, ap suc rest.1, ap (λ (l : List Bool). is_void x (rs ++ r ∷ []) ∷ l) rest.2))

voids_long : (rs : List Record) → length (voids rs) ≡ length rs
unfolding voids
voids_long [] = refl
voids_long (r ∷ rs) = ap suc (voids_long rs)

one_more : (lines : List (List ℕ)) (o : Option Record) → length (records_in lines) ≤ length lines → length (option_to_list o ++ records_in lines) ≤ suc (length lines)
one_more lines None so = omega (arith, so)
one_more lines (Some r) so = omega (arith, so)

no_more : (lines : List (List ℕ)) → length (records_in lines) ≤ length lines
unfolding records_in
no_more [] = omega arith
no_more (line ∷ lines) = one_more lines (record_of line) (no_more lines)

stays_by : (lines : List (List ℕ)) (line : List ℕ) (o : Option Record) → Contains (lines_kept (lines ++ line ∷ []) (voids (records_in lines ++ option_to_list o))) line
stays_by lines line None =
    let few = no_more lines in
    let long = voids_long (records_in lines ++ []) in
    past_kept lines line (voids (records_in lines ++ [])) (omega (arith, few, long, length_nil (records_in lines)))
stays_by lines line (Some r) =
    let few = no_more lines in
    let last = voids_last (records_in lines) r in
    let long = last.1 in
    subst (λ (outs : List Bool). Contains (lines_kept (lines ++ line ∷ []) outs) line) (sym last.2) (last_kept lines line last.0 (omega (arith, few, long)))

last_stays : (lines : List (List ℕ)) (line : List ℕ) → Contains (compacted_lines (lines ++ line ∷ [])) line
unfolding compacted_lines
last_stays lines line = subst (λ (rs : List Record). Contains (lines_kept (lines ++ line ∷ []) (voids rs)) line) (sym (records_push lines line)) (stays_by lines line (record_of line))

-- ---- a change that was taken

closed : (lines : List (List ℕ)) → AreLines lines → StandsFor (at_rest lines) lines
closed lines are = record { are_lines = are; end = 45 ∷ []; split = refl; nothing = λ line rest is e. absurd (let head : 45 ≡ 43 = ap (λ (l : List ℕ). slice_index l 0) e in omega (arith, head)) }

module _ {D : Type 0} (known : Bool) (seen : D → DiskState) (counts : (disk : D) (t : ℕ) (c : Image) → t ≤ (seen disk).moment → (seen disk).may_leave c → (seen disk).left_since t c)
    (now : ℕ) (name : List ℕ) (w : ChangeKind) (old new : Kept D) (h : IsTakenOn known seen now name w old new) where
  abbrev the_line : List ℕ
  the_line = line_for_change (book_in old).file name w

  abbrev lines_then : List (List ℕ)
  lines_then = lines_in (store_in h.mid)

  same_line : line_for_change (book_in new).file name w ≡ the_line
  same_line = ap (λ (f : File). line_for_change f name w) (ap (λ (b : Book). b.file) h.book ∙ h.taken.changed.file)

  has_then : Contains lines_then the_line
  has_then = subst (λ (ls : List (List ℕ)). Contains ls the_line) (sym h.taken.lines) (Contains-push (lines_in (store_in old)) the_line)

  stays_then : Contains (compacted_lines lines_then) the_line
  stays_then = subst (λ (ls : List (List ℕ)). Contains (compacted_lines ls) the_line) (sym h.taken.lines) (last_stays (lines_in (store_in old)) the_line)

  has_by : AreCompacted lines_then (lines_in (store_in new)) → Contains (lines_in (store_in new)) the_line
  has_by (inl same) = subst (λ (ls : List (List ℕ)). Contains ls the_line) (sym same) has_then
  has_by (inr fewer) = subst (λ (ls : List (List ℕ)). Contains ls the_line) (sym fewer.1) stays_then

  left_by : IsTrue known → (c : Image) → CrashLeaves (path_of_store (store_in h.mid)) (λ file. StandsFor file (compacted_lines lines_then)) (seen h.mid.disk) c → HasRecord the_line (bytes_of_file (c (path_of_store (store_in h.mid))))
  left_by is c (d, was, elsewhere, inl same) =
      let whole : JournalIsWhole (journal_of (store_in h.mid)) (seen h.mid.disk) = h.acknowledged is in
      let there = same ∙ whole.is_kept.durable d was ∙ whole.seen in
      (lines_then, (subst (λ (o : Option images.File). StandsFor (bytes_of_file o) lines_then) (sym there) (closed lines_then whole.are_lines), has_then))
  left_by is c (d, was, elsewhere, inr stands) = (compacted_lines lines_then, (stands, stays_then))

  left_of : IsTrue known → (c : Image) → (seen new.disk).may_leave c → HasRecord the_line (bytes_of_file (c (path_of_store (store_in h.mid))))
  left_of is c leaves = left_by is c (at_end (seen h.mid.disk) (seen new.disk) (CrashLeaves (path_of_store (store_in h.mid)) (λ file. StandsFor file (compacted_lines lines_then)) (seen h.mid.disk)) (h.left is) (counts new.disk) c leaves)

  pub on_disk : IsOnDisk known seen name w new
  on_disk = record {
    held = subst (λ (l : List ℕ). Contains (lines_in (store_in new)) l) (sym same_line) (has_by h.lines);
    left = λ is c leaves.
        subst (λ (p : List ℕ). HasRecord (line_for_change (book_in new).file name w) (bytes_of_file (c p))) (sym h.path)
        (subst (λ (l : List ℕ). HasRecord l (bytes_of_file (c (path_of_store (store_in h.mid))))) (sym same_line) (left_of is c leaves));
  }

-- ---- what is asked for is done where the ledger has taken it

module _ {D : Type 0} (known : Bool) (seen : D → DiskState) where
  moved : (name other : List ℕ) (w v : ChangeKind) (k : Kept D) → name ≡ other → w ≡ v → IsOnDisk known seen name w k → IsOnDisk known seen other v k
  moved name other w v k same is h = subst (λ (n : List ℕ). IsOnDisk known seen n v k) same (subst (λ (x : ChangeKind). IsOnDisk known seen name x k) is h)

  -- FILE was settled
  settled_by : (read : FileRead) (text : Option (List ℕ)) (old new : Kept D) → new.places ≡ old.places → (IsTrue known → IsFileAt old.places.file (seen old.disk) read) → fingerprint read.bytes ≡ (book_in old).file.mark
      → IsSettledIf known (store_in old) old.places (mode_of read.mode) text None (store_in new) (seen new.disk) → LeavesAloneIf known text (seen old.disk) (seen new.disk) → FileHasAll known seen new ⊎ FileSaysAll known seen new
  settled_by read (Some text) old new places was same h alone = inl (record {
    text = text;
    served = h.served;
    reads = h.says.read;
    lists = h.says.listed ∙ sym h.book.rows;
    is_read = h.book.file;
    emptied = ap records_in h.handed.0 ∙ damaged_records (lines_in (store_in old));
    mode = mode_of read.mode;
    there = λ is. subst (λ (p : Places). FileIsThere p.file (record { mode = mode_of read.mode; bytes = text }) (seen new.disk)) (sym places) (h.there is);
    copied = λ is. subst (λ (p : Places). FileIsThere p.copy (copy_with text) (seen new.disk)) (sym places) (h.handed.1 is).0;
    whole = λ is. (h.handed.1 is).1;
  })
  settled_by read None old new places was same h alone = inr (record {
    bytes = read.bytes;
    stand = (
      read.mode,
      λ is. subst (λ (p : Places). (seen new.disk).seen p.file ≡ Some (record { mode = read.mode; bytes = read.bytes })) (sym places)
          (ap (λ (image : Image). image old.places.file) (alone is).seen ∙ was is),
    );
    same = subst (λ (s : Store). fingerprint read.bytes ≡ (book_of s).file.mark) (sym h.1.0) same;
    says = subst (λ (s : Store). SaysAlready (book_of s)) (sym h.1.0) h.1.1;
  })

-- it was read anew
reread_as : {D : Type 0} (known : Bool) (seen : D → DiskState) (lines : List (List ℕ)) (bytes : List ℕ) (notes : List JournalNote) (old new : Kept D) → AreBytesOf known seen new bytes → lines_in (store_in new) ≡ lines
    → IsBookIf (Some bytes) (records_in lines) (book_in old).secrets (book_in new) notes → IsReread known seen new
reread_as known seen lines bytes notes old new stand same h =
    let secrets : (book_in old).secrets ≡ (book_in new).secrets = sym h.secrets_are in
    record {
      bytes = bytes;
      stand = stand;
      notes = notes;
      book = subst (λ (ls : List (List ℕ)). IsBookIf (Some bytes) (records_in ls) (book_in new).secrets (book_in new) notes) (sym same)
          (subst (λ (s : List Secret). IsBookIf (Some bytes) (records_in lines) s (book_in new) notes) secrets h);
    }

module _ {D I L : Type 0} (known : Bool) (seen : D → DiskState) (counts : (disk : D) (t : ℕ) (c : Image) → t ≤ (seen disk).moment → (seen disk).may_leave c → (seen disk).left_since t c)
    (calls : I → Option (List FileCall)) (lanes_seen : L → Lanes) (port : L → ℕ) where
  abbrev Does : KeepCall → Ledger D I L → Ledger D I L → Type 0
  Does = DoesLedger known seen calls lanes_seen port

  abbrev reads_of : Ledger D I L → List ℕ → Result Row Why → Type 0
  reads_of l = ReadsTable (book_in l.state).file.system_max

  taken : (a : ClientOrder) (now : ℕ) (name : List ℕ) (w : ChangeKind) (x : Unit {0}) (l m : Ledger D I L) → IsChangeOf reads_of a name w → Does (Take now name w (Ok x)) l m → IsKept known seen a m.state
  taken (asked.Need n need) now name w x l m is h = moved known seen name n w (what.Need need) m.state is.0 is.1 (on_disk known seen counts now name w l.state m.state h.0)
  taken (asked.Replace n credential) now name w x l m is h = moved known seen name n w (what.Replace credential) m.state is.0 is.1 (on_disk known seen counts now name w l.state m.state h.0)
  taken (asked.Add table) now name w x l m is h =
      let row = is.1.0 in
      ((book_in is.0.state).file.system_max, (row, (is.1.1.0, moved known seen name row.name w (what.Add row) m.state is.1.1.1.0 is.1.1.1.1 (on_disk known seen counts now name w l.state m.state h.0))))
  taken (asked.Drop n) now name w x l m is h = moved known seen name n w what.Drop m.state is.0 is.1 (on_disk known seen counts now name w l.state m.state h.0)
  taken _ now name w x l m is h = absurd is

  -- FILE was settled, or read anew
  settled : (x : Unit {0}) (l m : Ledger D I L) → Does (Settle (Ok x)) l m → FileHasAll known seen m.state ⊎ FileSaysAll known seen m.state
  settled x l m h = (let is = h.0.0 in settled_by known seen is.read is.text l.state m.state h.0.1 is.was is.same is.settled is.alone)

  reloaded : (now : ℕ) (reread : Reread) (l m : Ledger D I L) → Does (Reload now (Ok reread)) l m → IsReread known seen m.state
  reloaded now reread l m h = reread_as known seen (lines_in (store_in l.state)) h.0.bytes h.0.notes l.state m.state h.0.left h.0.lines h.0.book

  -- ---- or that is to come

  module _ (F : Type 0) where
    abbrev DoesLater : KeepCall → Late D I L F → Late D I L F → Type 0
    DoesLater = DoesLate known seen calls lanes_seen port

    abbrev reads_later : Late D I L F → List ℕ → Result Row Why → Type 0
    reads_later = ReadsLate

    abbrev Done : ClientOrder → Option (Late D I L F) → Type 0
    Done = IsDone known seen

    -- it is a ledger that reads a table
    change_by : (table name : List ℕ) (w : ChangeKind) (k : Late D I L F) → (row : Row) × (ReadsLate k table (Ok row) × ((name ≡ row.name) × (w ≡ what.Add row))) → IsChangeOf reads_of (asked.Add table) name w
    change_by table name w (Open l) is = (l, is)
    change_by table name w (NotYet s) is = absurd is.1.0

    change_of : (a : ClientOrder) (name : List ℕ) (w : ChangeKind) → IsChangeOf reads_later a name w → IsChangeOf reads_of a name w
    change_of (asked.Add table) name w is = change_by table name w is.0 is.1
    change_of _ name w is = is

    -- as long as it is to come only needs are taken
    shut_taken : (a : ClientOrder) (name : List ℕ) (w : ChangeKind) (x : Unit {0}) (s t : Shut F L) → IsChangeOf reads_of a name w → TakesShut name w (Ok x) s t → IsDoneUnkept a
    shut_taken (asked.Need n need) name w x s t is h = tt
    shut_taken (asked.Replace n credential) name w x s t is h = absurd (subst (λ (v : ChangeKind). TakesShut name v (Ok x) s t) is.1 h).0
    shut_taken (asked.Add table) name w x s t is h = absurd (subst (λ (v : ChangeKind). TakesShut name v (Ok x) s t) is.1.1.1.1 h).0
    shut_taken (asked.Drop n) name w x s t is h = absurd (subst (λ (v : ChangeKind). TakesShut name v (Ok x) s t) is.1 h).0
    shut_taken _ name w x s t is h = absurd is

    late_taken : (a : ClientOrder) (now : ℕ) (name : List ℕ) (w : ChangeKind) (x : Unit {0}) (l m : Late D I L F) → IsChangeOf reads_later a name w → DoesLater (Take now name w (Ok x)) l m → Done a (Some m)
    late_taken a now name w x (Open l) (Open m) is h = taken a now name w x l m (change_of a name w is) h
    late_taken a now name w x (NotYet s) (NotYet t) is h = shut_taken a name w x s t (change_of a name w is) h
    late_taken a now name w x _ _ is h = absurd h

    late_settled : (x : Unit {0}) (l m : Late D I L F) → DoesLater (Settle (Ok x)) l m → Done asked.Settle (Some m)
    late_settled x (Open l) (Open m) h = settled x l m h
    late_settled x (NotYet s) (NotYet t) h = absurd h.0
    late_settled x _ _ h = absurd h

    late_reloaded : (now : ℕ) (reread : Reread) (l m : Late D I L F) → DoesLater (Reload now (Ok reread)) l m → Done asked.Reload (Some m)
    late_reloaded now reread (Open l) (Open m) h = reloaded now reread l m h
    late_reloaded now reread (Open l) (NotYet t) h = absurd h
    late_reloaded now reread (NotYet s) (Open m) h = absurd h
    late_reloaded now reread (NotYet s) (NotYet t) h = absurd h

    pub are_done : AreDone DoesLater reads_later Done
    are_done = record { taken = late_taken; settled = late_settled; reloaded = late_reloaded; unkept = λ name need. tt }
