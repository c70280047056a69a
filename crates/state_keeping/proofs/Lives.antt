-- What was acknowledged is served, through settles, kills and losses of power.
use Rattle.std.proofs.Common.{◌≡◌, ◌⊎◌, inl, inr, ⊎_elim, ℕ, ◌+◌, ◌≤◌, Bool, true, false, ◌||◌, if◌then◌else◌, List, [], ◌∷◌, ◌++◌, append-nil, Option, Some, None, option_to_list, Result, Ok, Err, length, refl, sym, ap, subst, ◌∙◌}
use Rattle.std.proofs.lemmas.Bool.{cases_Bool, cond-false, cond-true, or_parts}
use Rattle.std.specs.Str.{bytes_eq}
use Rattle.state_changes.specs.declared.change.Change as taken
use Rattle.state_changes.specs.{declared.change.Record.Record, declared.fault.ChangeFault.ChangeFault, declared.row.Row.Row, Changes.rows_changed, Records.record_of, Words.fingerprint}
use Rattle.state_changes.specs.declared.change.Record.TheVariants.{Made, Settling}
use Rattle.state_changes.specs.Replay.{ReplayState, is_as_then, made, made_with, overruled, replay_begun, replay_step, replayed}
use Rattle.state_changes.specs.declared.replaying.File as replays
use Rattle.state_changes.proofs.Compacting.{compaction}
use Rattle.base_disk.specs.State.{DiskState}
use Rattle.base_disk.specs.Image.{File, Image, SameElsewhere, with_file_at}
use Rattle.vault_inventory.specs.{declared.fault.InvFault.InvFault, Inventory.read_served, Served.Served}
use Rattle.base_journal.specs.{Journals.CrashLeaves, Journals.bytes_of_file, Laws.OneReading, Records.IsBeforeOrAfter, Records.StandsFor}
use Rattle.base_journal.proofs.Runs.{rest_has}
use Rattle.state_file.specs.Order.{in_order}
use Rattle.state_store.specs.{declared.fault.FileFault.FileFault, Moved.SaysAllKept, Moved.mark_line, Records.records_in}
use Rattle.state_store.specs.Books.{Book, IsFileOf, file_of}
use Rattle.state_store.specs.Compacted.{compacted_lines, damaged, is_worth}
use Rattle.state_store.specs.Stores.{BookIsFrom, is_sure, journal_of, lines_in, path_of_store}
use Rattle.state_store.proofs.{Copied.at_path, Copied.moves_elsewhere, Staying.damaged_records, Lists.records_push, Replayed.replayed_last, Undamaged.compacted_records, Undamaged.worth_records}
use Rattle.state_store.proofs.Marked.{mark_read, marked_gives, same_texts}
use Rattle.state_keeping.specs.{Opens.IsOpenedState, Places.Places, Places.PlacesAreApart, Recovers.LeftByStart, Settles.copy_with}
use Rattle.state_keeping.specs.Lives.{Aim, AllHappen, AllHold, Alone, Answered, AreCutShort, Call, Change, Changed, Compact, DeedsMake, End, Event, HandOver, HasNoTwin, IsAllInFile, IsCall, IsDone, IsEnd, IsIn, IsLeft, IsOnDisk, IsReady, LeavesAmid, LeftAtEnd, Mark, MayBeDone, OverStarts, Place, Reload, Settled, Standing, deeds_at_end, deeds_with, file_by, last_of, rows_after, rows_by, rows_if, rows_or, rows_with, standing_after, standing_after_all}
use Rattle.state_keeping.specs.States.{IsKeeping, Kept, book_in, store_in}
use Rattle.state_keeping.proofs.{Filed.journal_is_other, Others.apart_back, Others.at_end, Renewed.file_is_other, Served.aside_records}

-- ---- one record more

rows_of_if : (b : Bool) (x y : ReplayState) (p q : List Row) → x.rows ≡ p → y.rows ≡ q → (if b then x else y).rows ≡ (if b then p else q)
rows_of_if true x y p q e h = e
rows_of_if false x y p q e h = h

made_or : (at : ℕ) (s : ReplayState) (r : Result (List Row) ChangeFault) → (made_with at s r).rows ≡ rows_or s.rows r
made_or at s (Ok rows) = refl
made_or at s (Err fault) = refl

made_is : (margin at : ℕ) (s : ReplayState) (c : taken.Change) → (made margin at s c).rows ≡ rows_or s.rows (rows_changed margin s.rows c.name c.what)
unfolding made
made_is margin at s c = made_or at s (rows_changed margin s.rows c.name c.what)

overruled_is : (at : ℕ) (s : ReplayState) (c : taken.Change) → (overruled at s c).rows ≡ s.rows
unfolding overruled
overruled_is at s c = refl

step_rows : (f : replays.File) (at : ℕ) (s : ReplayState) (r : Record) → (replay_step f at s r).rows ≡ rows_after f s.rows r
step_rows f at s (Settling mark) = rows_of_if (bytes_eq mark f.mark) (replay_begun f) s f.rows s.rows refl refl
step_rows f at s (Made c) =
    rows_of_if (is_as_then f.rows c) (made f.margin at s c) (overruled at s c) (rows_or s.rows (rows_changed f.margin s.rows c.name c.what)) s.rows (made_is f.margin at s c) (overruled_is at s c)

more_if : (f : replays.File) (rs : List Record) (o : Option Record) → (replayed f (rs ++ option_to_list o)).rows ≡ rows_if f (replayed f rs).rows o
more_if f rs None = ap (λ (qs : List Record). (replayed f qs).rows) (append-nil rs)
more_if f rs (Some r) = ap (λ (t : ReplayState). t.rows) (replayed_last f rs r) ∙ step_rows f (0 + length rs) (replayed f rs) r

more_rows : (f : replays.File) (lines : List (List ℕ)) (line : List ℕ) → (replayed f (records_in (lines ++ line ∷ []))).rows ≡ rows_with f line (replayed f (records_in lines)).rows
more_rows f lines line = ap (λ (rs : List Record). (replayed f rs).rows) (records_push lines line) ∙ more_if f (records_in lines) (record_of line)

-- a mark more
marked_rows : (f : replays.File) (lines : List (List ℕ)) (text : List ℕ) → (replayed f (records_in (lines ++ mark_line text ∷ []))).rows ≡ (if bytes_eq (fingerprint text) f.mark then f.rows else (replayed f (records_in lines)).rows)
marked_rows f lines text = more_rows f lines (mark_line text) ∙ ap (rows_if f (replayed f (records_in lines)).rows) (mark_read text)

-- ---- one deed more

made_by : (deeds : List Answered) (from f : replays.File) (rows now : List Row) (a : Answered) → DeedsMake deeds from rows f now → MayBeDone a.deed a.is_acknowledged f now
    → DeedsMake (deeds ++ a ∷ []) from rows (file_by a.deed f) (rows_by a.deed f now)
made_by [] from f rows now a (file, so) may = inl (
  subst (λ (g : replays.File). MayBeDone a.deed a.is_acknowledged g rows) file (subst (MayBeDone a.deed a.is_acknowledged f) so may),
  (ap (file_by a.deed) file, ap (rows_by a.deed f) so ∙ ap (λ (g : replays.File). rows_by a.deed g rows) file),
)
made_by (first ∷ deeds) from f rows now a (inl (done, so)) may = inl (done, made_by deeds (file_by first.deed from) f (rows_by first.deed from rows) now a so may)
made_by (first ∷ deeds) from f rows now a (inr (left, so)) may = inr (left, made_by deeds from f rows now a so may)

made_without : (deeds : List Answered) (from f : replays.File) (rows now : List Row) (a : Answered) → a.is_acknowledged ≡ false → DeedsMake deeds from rows f now → DeedsMake (deeds ++ a ∷ []) from rows f now
made_without [] from f rows now a left so = inr (left, so)
made_without (first ∷ deeds) from f rows now a left (inl (done, so)) = inl (done, made_without deeds (file_by first.deed from) f (rows_by first.deed from rows) now a left so)
made_without (first ∷ deeds) from f rows now a left (inr (other, so)) = inr (other, made_without deeds from f rows now a left so)

-- ---- paths

file_is_not_aside : (p : Places) → PlacesAreApart p → bytes_eq p.file p.aside ≡ false
file_is_not_aside p apart =
    let rest = (or_parts (bytes_eq p.file p.journal) (bytes_eq p.file p.copy || (bytes_eq p.file p.aside || bytes_eq p.file p.lock)) apart.inside).1 in
    let more = (or_parts (bytes_eq p.file p.copy) (bytes_eq p.file p.aside || bytes_eq p.file p.lock) rest).1 in
    (or_parts (bytes_eq p.file p.aside) (bytes_eq p.file p.lock) more).0

-- ---- one FILE

same_some : (a b : File) → Some a ≡ Some b → a ≡ b
same_some a b e = cc

same_served : (a b : Served) (r : Result Served InvFault) → r ≡ Ok a → r ≡ Ok b → a ≡ b
same_served a b r e h = cc

-- bytes are those of one file
one_file : (bytes : List ℕ) (f g : replays.File) → IsFileOf bytes f → IsFileOf bytes g → g ≡ f
one_file bytes f g (v, (read, is)) (w, (again, same)) = same ∙ ap (file_of bytes) (same_served w v (read_served bytes) again read) ∙ sym is

-- and so is what is there
one_in : (x : Option File) (f g : replays.File) → IsIn x f → IsIn x g → g ≡ f
one_in x f g (file, there, is) (other, again, same) =
    one_file file.bytes f g is (subst (λ (d : File). IsFileOf d.bytes g) (same_some other file (sym again ∙ there)) same)

in_settled : (mode : ℕ) (text : List ℕ) (v : Served) (b : Book) → SaysAllKept b text v → IsIn (Some (record { mode = mode; bytes = text })) (file_of text v)
in_settled mode text v b says = (record { mode = mode; bytes = text }, refl, (v, (says.read, refl)))

in_bytes : (x y : Option File) (f : replays.File) → bytes_of_file y ≡ bytes_of_file x → (g : replays.File) → IsIn x f → IsIn y g → g ≡ f
in_bytes x y f same g (file, there, is) (other, again, found) =
    one_file file.bytes f g is (subst (λ (b : List ℕ). IsFileOf b g) (ap bytes_of_file (sym again) ∙ same ∙ ap bytes_of_file there) found)

-- ---- all of them

module _ {D : Type 0} (state : D → DiskState) (counts : (disk : D) (t : ℕ) (c : Image) → t ≤ (state disk).moment → (state disk).may_leave c → (state disk).left_since t c) (once : OneReading) (first : Kept D) (safe : IsOnDisk state first) where
  abbrev Makes : List Answered → replays.File → List Row → Type 0
  Makes deeds f rows = DeedsMake deeds (book_in first).file (book_in first).rows f rows

  -- what the deeds have made is read of this file and these lines
  abbrev Reads : List Answered → replays.File → List (List ℕ) → Type 0
  Reads deeds f lines = Makes deeds f (replayed f (records_in lines)).rows

  -- images with a good FILE each; and of the FILE of one and the journal of another one a start reads what the deeds have made
  record Fits (deeds : List Answered) (P : Image → Type 0) : Type 0 where
    pub there : (c : Image) → P c → (f : replays.File) × IsIn (c first.places.file) f
    pub cross : (c d : Image) → P c → P d → (f : replays.File) → IsIn (c first.places.file) f → (lines : List (List ℕ)) → StandsFor (bytes_of_file (d first.places.journal)) lines → Reads deeds f lines

  -- and so it is with these lines
  abbrev FitsWith : List Answered → List (List ℕ) → (Image → Type 0) → Type 0
  FitsWith deeds lines P = (c : Image) → P c → (f : replays.File) → IsIn (c first.places.file) f → Reads deeds f lines

  -- the FILE that is seen, with these lines
  record Shows (deeds : List Answered) (lines : List (List ℕ)) (there : Option File) : Type 0 where
    pub says : replays.File
    pub is : IsIn there says
    pub reads : Reads deeds says lines

  record Holds (s : Standing D) : Type 0 where
    pub held : Makes s.deeds (book_in s.kept).file (book_in s.kept).rows
    pub fits : Fits s.deeds (state s.kept.disk).may_leave
    pub now : FitsWith s.deeds (lines_in (store_in s.kept)) (state s.kept.disk).may_leave
    pub shown : Shows s.deeds (lines_in (store_in s.kept)) ((state s.kept.disk).seen first.places.file)
    pub sure : is_sure (store_in s.kept) ≡ true → shown.says ≡ (book_in s.kept).file
    pub places : s.kept.places ≡ first.places
    pub keeping : IsKeeping true s.kept.keeper s.kept.places (state s.kept.disk)

  fewer : (deeds : List Answered) (P Q : Image → Type 0) → ((c : Image) → Q c → P c) → Fits deeds P → Fits deeds Q
  fewer deeds P Q means fits = record { there = λ c has. fits.there c (means c has); cross = λ c d has with. fits.cross c d (means c has) (means d with) }

  -- lines that are read are these
  by_lines : (deeds : List Answered) (f : replays.File) (bytes : List ℕ) (lines others : List (List ℕ)) → StandsFor bytes lines → StandsFor bytes others → Reads deeds f lines → Reads deeds f others
  by_lines deeds f bytes lines others stands reads so = subst (Reads deeds f) (once bytes lines others stands reads) so

  module _ (s : Standing D) (so : Holds s) where
    abbrev old : Kept D
    old = s.kept

    abbrev lines_now : List (List ℕ)
    lines_now = lines_in (store_in s.kept)

    abbrev path_now : List ℕ
    path_now = path_of_store (store_in s.kept)

    at_journal : path_now ≡ first.places.journal
    at_journal = so.keeping.path ∙ ap (λ (p : Places). p.journal) so.places

    path_is_other : bytes_eq path_now first.places.file ≡ false
    path_is_other = ap (λ (p : List ℕ). bytes_eq p first.places.file) at_journal ∙ journal_is_other first.places safe.apart

    -- FILE is there as it was, and the journal is as it was or has P
    put_fits : (deeds : List Answered) (P : List ℕ → Type 0) → ((f : replays.File) (lines : List (List ℕ)) → Reads s.deeds f lines → Reads deeds f lines)
        → ((c : Image) → (state old.disk).may_leave c → (f : replays.File) → IsIn (c first.places.file) f → (bytes : List ℕ) → P bytes → (lines : List (List ℕ)) → StandsFor bytes lines → Reads deeds f lines)
        → Fits deeds (CrashLeaves path_now P (state old.disk))
    put_fits deeds P still new = record {
      there = λ c left. subst (λ (x : Option File). (f : replays.File) × IsIn x f) (sym (left.2 first.places.file path_is_other)) (so.fits.there left.0 left.1);
      cross = λ c d left right f is lines reads.
          let was = subst (λ (x : Option File). IsIn x f) (left.2 first.places.file path_is_other) is in
          let here = subst (λ (p : List ℕ). StandsFor (bytes_of_file (d p)) lines) (sym at_journal) reads in
          ⊎_elim
          (λ same. still f lines (so.fits.cross left.0 right.0 left.1 right.1 f was lines
          (subst (λ (p : List ℕ). StandsFor (bytes_of_file (right.0 p)) lines) at_journal (subst (λ (x : Option File). StandsFor (bytes_of_file x) lines) same here))))
          (λ has. new left.0 left.1 f was (bytes_of_file (d path_now)) has lines here)
          right.3;
    }

    put_with : (deeds : List Answered) (lines : List (List ℕ)) (P : List ℕ → Type 0) → FitsWith deeds lines (state old.disk).may_leave → FitsWith deeds lines (CrashLeaves path_now P (state old.disk))
    put_with deeds lines P with c left f is = with left.0 left.1 f (subst (λ (x : Option File). IsIn x f) (left.2 first.places.file path_is_other) is)

    -- a line more, of which nobody knows
    module _ (a : Answered) (left : a.is_acknowledged ≡ false) (line : List ℕ) (more : FitsWith (s.deeds ++ a ∷ []) (lines_now ++ line ∷ []) (state old.disk).may_leave) where
      still_reads : (f : replays.File) (lines : List (List ℕ)) → Reads s.deeds f lines → Reads (s.deeds ++ a ∷ []) f lines
      still_reads f lines reads = made_without s.deeds (book_in first).file f (book_in first).rows (replayed f (records_in lines)).rows a left reads

      line_fits : Fits (s.deeds ++ a ∷ []) (CrashLeaves path_now (IsBeforeOrAfter lines_now line) (state old.disk))
      line_fits = put_fits (s.deeds ++ a ∷ []) (IsBeforeOrAfter lines_now line) still_reads
          (λ c was f is bytes has lines reads. ⊎_elim
          (λ before. by_lines (s.deeds ++ a ∷ []) f bytes lines_now lines before reads (still_reads f lines_now (so.now c was f is)))
          (λ after. by_lines (s.deeds ++ a ∷ []) f bytes (lines_now ++ line ∷ []) lines after reads (more c was f is))
          has)

    abbrev changed : List ℕ → Bool → Answered
    changed line is_acknowledged = record { deed = Changed (book_in old).file line; is_acknowledged = is_acknowledged }

    abbrev settled : List ℕ → Served → Bool → Answered
    settled text v is_acknowledged = record { deed = Settled text v; is_acknowledged = is_acknowledged }

    -- a change is made beside whichever FILE there is
    change_reads : (line : List ℕ) (f : replays.File) → Reads s.deeds f lines_now → Reads (s.deeds ++ changed line false ∷ []) f (lines_now ++ line ∷ [])
    change_reads line f reads = subst (Makes (s.deeds ++ changed line false ∷ []) f) (sym (more_rows f lines_now line))
        (made_by s.deeds (book_in first).file f (book_in first).rows (replayed f (records_in lines_now)).rows (changed line false) reads tt)

    -- FILE becomes what is kept
    settle_makes : (text : List ℕ) (v : Served) (is_acknowledged : Bool) → SaysAllKept (book_in old) text v → Makes (s.deeds ++ settled text v is_acknowledged ∷ []) (file_of text v) (in_order (book_in old).rows)
    settle_makes text v is_acknowledged says =
        made_by s.deeds (book_in first).file (book_in old).file (book_in first).rows (book_in old).rows (settled text v is_acknowledged) so.held says

    -- with its mark a FILE gives what it gave; but one that has that text gives what is kept
    mark_reads : (text : List ℕ) (v : Served) → SaysAllKept (book_in old) text v → (x : Option File) → ((file : File) → x ≡ Some file → fingerprint file.bytes ≡ fingerprint text → file.bytes ≡ text)
        → (f : replays.File) → IsIn x f → Reads s.deeds f lines_now → Reads (s.deeds ++ settled text v false ∷ []) f (lines_now ++ mark_line text ∷ [])
    mark_reads text v says x twin f (file, there, (w, (read, is))) reads =
        let a = settled text v false in
        subst (Makes (s.deeds ++ a ∷ []) f) (sym (marked_rows f lines_now text))
        (⊎_elim
        (λ same.
        let prints : fingerprint file.bytes ≡ fingerprint text = sym (same_texts (fingerprint text) f.mark same ∙ ap (λ (g : replays.File). g.mark) is) in
        let bytes : file.bytes ≡ text = twin file there prints in
        let f_is : f ≡ file_of text v = is ∙ ap (λ (b : List ℕ). file_of b w) bytes ∙ ap (file_of text) (same_served w v (read_served text) (subst (λ (b : List ℕ). read_served b ≡ Ok w) bytes read) says.read) in
        let rows : f.rows ≡ in_order (book_in old).rows = ap (λ (g : replays.File). g.rows) f_is ∙ says.listed in
        subst (Makes (s.deeds ++ a ∷ []) f) (sym (cond-true (bytes_eq (fingerprint text) f.mark) f.rows (replayed f (records_in lines_now)).rows same ∙ rows))
        (subst (λ (g : replays.File). Makes (s.deeds ++ a ∷ []) g (in_order (book_in old).rows)) (sym f_is) (settle_makes text v false says)))
        (λ other. subst (Makes (s.deeds ++ a ∷ []) f) (sym (cond-false (bytes_eq (fingerprint text) f.mark) f.rows (replayed f (records_in lines_now)).rows other))
        (made_without s.deeds (book_in first).file f (book_in first).rows (replayed f (records_in lines_now)).rows a refl reads))
        (cases_Bool (bytes_eq (fingerprint text) f.mark)))

    -- the text with its mark gives what is kept
    placed_reads : (text : List ℕ) (v : Served) (is_acknowledged : Bool) → IsReady state text v old → Reads (s.deeds ++ settled text v is_acknowledged ∷ []) (file_of text v) lines_now
    placed_reads text v is_acknowledged ready =
        let gives : (replayed (file_of text v) (records_in lines_now)).rows ≡ in_order (book_in old).rows =
        ap (λ (ls : List (List ℕ)). (replayed (file_of text v) (records_in ls)).rows) ready.marked.1 ∙ ap (λ (r : ReplayState). r.rows) (marked_gives ready.marked.0 (book_in old) text v ready.says) in
        subst (Makes (s.deeds ++ settled text v is_acknowledged ∷ []) (file_of text v)) (sym gives) (settle_makes text v is_acknowledged ready.says)

    compacted_reads : is_worth lines_now ≡ true → (f : replays.File) → Reads s.deeds f lines_now → Reads s.deeds f (compacted_lines lines_now)
    compacted_reads worth f reads =
        subst (Makes s.deeds f) (sym (ap (λ (rs : List Record). (replayed f rs).rows) (compacted_records lines_now (worth_records lines_now worth)) ∙ compaction f (records_in lines_now))) reads

    -- FILE is the one that is seen, or has this text, and the journal is on the disk
    module _ (mode : ℕ) (text : List ℕ) (v : Served) (is_acknowledged : Bool) (ready : IsReady state text v old) where
      abbrev then_settled : List Answered
      then_settled = s.deeds ++ settled text v is_acknowledged ∷ []

      abbrev new_file : File
      new_file = record { mode = mode; bytes = text }

      moved_is : (d c : Image) → c ≡ with_file_at old.places.file new_file d → c first.places.file ≡ Some new_file
      moved_is d c moved = ap (λ (image : Image). image first.places.file) moved ∙ ap (λ (p : Places). with_file_at p.file new_file d first.places.file) so.places ∙ at_path first.places.file new_file d

      moved_reads : (x : Option File) → x ≡ Some new_file → (f : replays.File) → IsIn x f → Reads then_settled f lines_now
      moved_reads x is f there =
          subst (λ (g : replays.File). Reads then_settled g lines_now) (sym (one_in (Some new_file) (file_of text v) f (in_settled mode text v (book_in old) ready.says) (subst (λ (y : Option File). IsIn y f) is there)))
          (placed_reads text v is_acknowledged ready)

      -- the journal of each image
      journal_has : (d c : Image) → (state old.disk).may_leave d → c path_now ≡ d path_now → StandsFor (bytes_of_file (c first.places.journal)) lines_now
      journal_has d c left same =
          subst (λ (p : List ℕ). StandsFor (bytes_of_file (c p)) lines_now) at_journal
          (subst (λ (x : Option File). StandsFor (bytes_of_file x) lines_now) (sym same) (rest_has path_now lines_now (journal_of (store_in old)).size (state old.disk) ready.whole d left))

      journal_past : (c : Image) → (left : LeavesAmid state (Place mode text v) old c) → c path_now ≡ left.0 path_now
      journal_past c left = moves_elsewhere old.places.file new_file left.0 c left.2 path_now
          (apart_back path_now old.places.file (ap (λ (p : Places). bytes_eq path_now p.file) so.places ∙ path_is_other))

      place_with : (is_acknowledged ≡ false) → FitsWith then_settled lines_now (LeavesAmid state (Place mode text v) old)
      place_with left c (d, was, inl same) f is = made_without s.deeds (book_in first).file f (book_in first).rows (replayed f (records_in lines_now)).rows (settled text v is_acknowledged) left
          (so.now d was f (subst (λ (image : Image). IsIn (image first.places.file) f) same is))
      place_with left c (d, was, inr moved) f is = moved_reads (c first.places.file) (moved_is d c moved) f is

      place_there : (c : Image) → LeavesAmid state (Place mode text v) old c → (f : replays.File) × IsIn (c first.places.file) f
      place_there c (d, was, inl same) = subst (λ (image : Image). (f : replays.File) × IsIn (image first.places.file) f) (sym same) (so.fits.there d was)
      place_there c (d, was, inr moved) = (file_of text v, subst (λ (x : Option File). IsIn x (file_of text v)) (sym (moved_is d c moved)) (in_settled mode text v (book_in old) ready.says))

      place_fits : (is_acknowledged ≡ false) → Fits then_settled (LeavesAmid state (Place mode text v) old)
      place_fits left = record {
        there = place_there;
        cross = λ c d one other f is lines reads.
            by_lines then_settled f (bytes_of_file (d first.places.journal)) lines_now lines (journal_has other.0 d other.1 (journal_past d other)) reads (place_with left c one f is);
      }

    -- FILE is the one that was read, and the journal is as it was or without its records
    module _ (text : List ℕ) (all : IsAllInFile state old) where
      alone_there : (c : Image) → (state old.disk).may_leave c → (f : replays.File) → IsIn (c first.places.file) f → f ≡ (book_in old).file
      alone_there c left f is =
          let durable = subst (λ (p : Places). (image : Image) → (state old.disk).may_leave image → image p.file ≡ (state old.disk).seen p.file) so.places all.durable.durable in
          one_in (c first.places.file) so.shown.says f (subst (λ (x : Option File). IsIn x so.shown.says) (sym (durable c left)) so.shown.is) is ∙ so.sure all.sure

      unrecorded_reads : (f : replays.File) → f ≡ (book_in old).file → Reads s.deeds f (damaged lines_now)
      unrecorded_reads f is = subst (λ (g : replays.File). Reads s.deeds g (damaged lines_now)) (sym is)
          (subst (Makes s.deeds (book_in old).file) (sym (ap (λ (rs : List Record). (replayed (book_in old).file rs).rows) (damaged_records lines_now) ∙ all.by_itself)) so.held)

      hand_there : (c : Image) → (left : LeavesAmid state (HandOver text) old c) → c first.places.file ≡ left.was first.places.file
      hand_there c left = left.elsewhere first.places.file path_is_other
          (ap (λ (p : Places). bytes_eq p.copy first.places.file) so.places ∙ apart_back first.places.file first.places.copy (file_is_other first.places safe.apart))

      hand_with : (lines : List (List ℕ)) → FitsWith s.deeds lines (state old.disk).may_leave → FitsWith s.deeds lines (LeavesAmid state (HandOver text) old)
      hand_with lines with c left f is = with left.was left.before f (subst (λ (x : Option File). IsIn x f) (hand_there c left) is)

      hand_fits : Fits s.deeds (LeavesAmid state (HandOver text) old)
      hand_fits = record {
        there = λ c left. subst (λ (x : Option File). (f : replays.File) × IsIn x f) (sym (hand_there c left)) (so.fits.there left.was left.before);
        cross = λ c d one other f is lines reads.
            let was = subst (λ (x : Option File). IsIn x f) (hand_there c one) is in
            let same : d path_now ≡ other.was path_now → Reads s.deeds f lines =
            λ e. so.fits.cross one.was other.was one.before other.before f was lines
            (subst (λ (x : Option File). StandsFor (bytes_of_file x) lines) (subst (λ (p : List ℕ). d p ≡ other.was p) at_journal e) reads) in
            ⊎_elim (λ none. same none.1)
            (λ copied. ⊎_elim same
            (λ stay. by_lines s.deeds f (bytes_of_file (d first.places.journal)) (damaged lines_now) lines (subst (λ (p : List ℕ). StandsFor (bytes_of_file (d p)) (damaged lines_now)) at_journal stay) reads
            (unrecorded_reads f (alone_there one.was one.before f was)))
            copied.1)
            other.both;
      }

    -- the copy is another one, and all else is as it was
    copy_past : (bytes : List ℕ) (c : Image) → (left : LeavesAmid state (Reload bytes) old c) → SameElsewhere first.places.copy left.0 c
    copy_past bytes c left = subst (λ (p : Places). SameElsewhere p.copy left.0 c) so.places (moves_elsewhere old.places.copy (copy_with bytes) left.0 c left.2)

    copy_there : (bytes : List ℕ) (c : Image) → (left : LeavesAmid state (Reload bytes) old c) → c first.places.file ≡ left.0 first.places.file
    copy_there bytes c left = copy_past bytes c left first.places.file (apart_back first.places.file first.places.copy (file_is_other first.places safe.apart))

    reload_with : (bytes : List ℕ) → FitsWith s.deeds lines_now (LeavesAmid state (Reload bytes) old)
    reload_with bytes c left f is = so.now left.0 left.1 f (subst (λ (x : Option File). IsIn x f) (copy_there bytes c left) is)

    reload_fits : (bytes : List ℕ) → Fits s.deeds (LeavesAmid state (Reload bytes) old)
    reload_fits bytes = record {
      there = λ c left. subst (λ (x : Option File). (f : replays.File) × IsIn x f) (sym (copy_there bytes c left)) (so.fits.there left.0 left.1);
      cross = λ c d one other f is lines reads. so.fits.cross one.0 other.0 one.1 other.1 f (subst (λ (x : Option File). IsIn x f) (copy_there bytes c one) is) lines
          (subst (λ (x : Option File). StandsFor (bytes_of_file x) lines) (copy_past bytes d other first.places.journal (apart_back first.places.journal first.places.copy safe.apart.journal_copy)) reads);
    }

    compact_fits : (worth : is_worth lines_now ≡ true) → Fits s.deeds (CrashLeaves path_now (λ bytes. StandsFor bytes (compacted_lines lines_now)) (state old.disk))
    compact_fits worth = put_fits s.deeds (λ bytes. StandsFor bytes (compacted_lines lines_now)) (λ f lines reads. reads)
        (λ c was f is bytes has lines reads. by_lines s.deeds f bytes (compacted_lines lines_now) lines has reads (compacted_reads worth f (so.now c was f is)))

    change_with : (line : List ℕ) → FitsWith (s.deeds ++ changed line false ∷ []) (lines_now ++ line ∷ []) (state old.disk).may_leave
    change_with line c left f is = change_reads line f (so.now c left f is)

    mark_with : (text : List ℕ) (v : Served) → SaysAllKept (book_in old) text v → HasNoTwin state (Mark text v) old → FitsWith (s.deeds ++ settled text v false ∷ []) (lines_now ++ mark_line text ∷ []) (state old.disk).may_leave
    mark_with text v says twin c left f is =
        let none = subst (λ (p : Places). (file : File) → c p.file ≡ Some file → fingerprint file.bytes ≡ fingerprint text → file.bytes ≡ text) so.places (twin c (inl left)) in
        mark_reads text v says (c first.places.file) none f is (so.now c left f is)

    -- a crash amid a call
    amid_call : (aim : Aim) (is_acknowledged : Bool) (new : Kept D) → IsDone state aim is_acknowledged old new → HasNoTwin state aim old → Fits (deeds_with s.deeds (book_in old).file aim false) (LeavesAmid state aim old)
    amid_call (Change line) is_acknowledged new done twin = line_fits (changed line false) refl line (change_with line)
    amid_call Compact is_acknowledged new done twin = record {
      there = λ c left. (compact_fits left.0).there c left.1;
      cross = λ c d one other. (compact_fits one.0).cross c d one.1 other.1;
    }
    amid_call (Reload bytes) is_acknowledged new done twin = reload_fits bytes
    amid_call (Mark text v) is_acknowledged new done twin = line_fits (settled text v false) refl (mark_line text) (mark_with text v done.0 twin)
    amid_call (Place mode text v) true new done twin = place_fits mode text v false done.0 refl
    amid_call (Place mode text v) false new done twin = place_fits mode text v false done.0 refl
    amid_call (HandOver text) is_acknowledged new done twin = hand_fits text done.0
    amid_call Alone is_acknowledged new done twin = so.fits

    fits_at_end : (inside : Option (Call D)) → (found : D) → IsLeft (LeftAtEnd state old inside) (state found) → Fits (deeds_at_end s.deeds (book_in old).file inside) (LeftAtEnd state old inside)
    fits_at_end None found left = so.fits
    fits_at_end (Some call) found left =
        let is = left.seen.0 in
        fewer (deeds_with s.deeds (book_in old).file call.aim false) (LeavesAmid state call.aim old) (LeftAtEnd state old (Some call)) (λ c at. is.any_moment.each c at.2)
        (amid_call call.aim call.is_acknowledged call.kept is.done left.seen.1)

    -- what is read of the file in memory, with the lines in memory
    reads_now : Reads s.deeds (book_in old).file lines_now
    reads_now = subst (Makes s.deeds (book_in old).file) (sym so.keeping.replayed) so.held

    module _ (kept : Kept D) where
      -- all holds of the next state, which has these lines
      module _ (aim : Aim) (is_acknowledged : Bool) (is : IsCall state old (record { aim = aim; is_acknowledged = is_acknowledged; kept = kept })) (deeds : List Answered) (lines : List (List ℕ)) (lines_are : lines_in (store_in kept) ≡ lines) where
        behind : (c : Image) → (state kept.disk).may_leave c → LeavesAmid state aim old c
        behind c left = at_end (state old.disk) (state kept.disk) (LeavesAmid state aim old) is.any_moment (counts kept.disk) c left

        holds_then : Fits deeds (state kept.disk).may_leave → FitsWith deeds lines (state kept.disk).may_leave → (shown : Shows deeds lines ((state kept.disk).seen first.places.file))
            → (is_sure (store_in kept) ≡ true → shown.says ≡ (book_in kept).file) → Reads deeds (book_in kept).file lines → Holds (record { deeds = deeds; kept = kept })
        holds_then fits with shown sure reads = record {
          held = subst (Makes deeds (book_in kept).file) is.keeping.replayed (subst (Reads deeds (book_in kept).file) (sym lines_are) reads);
          fits = fits;
          now = λ c left f there. subst (Reads deeds f) (sym lines_are) (with c left f there);
          shown = record { says = shown.says; is = shown.is; reads = subst (Reads deeds shown.says) (sym lines_are) shown.reads };
          sure = sure;
          places = is.places ∙ so.places;
          keeping = is.keeping;
        }

        -- where FILE is seen as before, and so is what was read of it
        holds_still : (state kept.disk).seen old.places.file ≡ (state old.disk).seen old.places.file → (is_sure (store_in kept) ≡ true → is_sure (store_in old) ≡ true) → (book_in kept).file ≡ (book_in old).file
            → Fits deeds (LeavesAmid state aim old) → FitsWith deeds lines (LeavesAmid state aim old) → Reads deeds so.shown.says lines → Reads deeds (book_in old).file lines → Holds (record { deeds = deeds; kept = kept })
        holds_still seen sure file fits with shown reads =
            holds_then (fewer deeds (LeavesAmid state aim old) (state kept.disk).may_leave behind fits) (λ c left f there. with c (behind c left) f there)
            (record {
              says = so.shown.says;
              is = subst (λ (x : Option File). IsIn x so.shown.says) (sym (subst (λ (p : Places). (state kept.disk).seen p.file ≡ (state old.disk).seen p.file) so.places seen)) so.shown.is;
              reads = shown;
            })
            (λ now. so.sure (sure now) ∙ sym file)
            (subst (λ (f : replays.File). Reads deeds f lines) (sym file) reads)

      -- a change that was acknowledged: FILE is the one that was read, and stays it
      taken_holds : (line : List ℕ) → IsCall state old (record { aim = Change line; is_acknowledged = true; kept = kept }) → Holds (record { deeds = s.deeds ++ changed line true ∷ []; kept = kept })
      taken_holds line is =
          let a = changed line true in
          let deeds = s.deeds ++ a ∷ [] in
          let done = is.done.0 in
          let says : so.shown.says ≡ (book_in old).file = so.sure is.done.1 in
          let seen = subst (λ (p : Places). (state kept.disk).seen p.file ≡ (state old.disk).seen p.file) so.places is.seen in
          let durable = subst (λ (p : Places). (c : Image) → (state kept.disk).may_leave c → c p.file ≡ (state kept.disk).seen p.file) so.places is.done.2.durable in
          let there : IsIn ((state kept.disk).seen first.places.file) so.shown.says = subst (λ (x : Option File). IsIn x so.shown.says) (sym seen) so.shown.is in
          let reads : Reads deeds (book_in old).file (lines_now ++ line ∷ []) = subst (Makes deeds (book_in old).file) (sym (more_rows (book_in old).file lines_now line))
          (made_by s.deeds (book_in first).file (book_in old).file (book_in first).rows (replayed (book_in old).file (records_in lines_now)).rows a reads_now refl) in
          let which : (c : Image) → (state kept.disk).may_leave c → (f : replays.File) → IsIn (c first.places.file) f → Reads deeds f (lines_now ++ line ∷ []) =
          λ c left f is. subst (λ (g : replays.File). Reads deeds g (lines_now ++ line ∷ []))
          (sym (one_in (c first.places.file) so.shown.says f (subst (λ (x : Option File). IsIn x so.shown.says) (sym (durable c left)) there) is ∙ says)) reads in
          let at : path_of_store (store_in kept) ≡ first.places.journal = is.keeping.path ∙ ap (λ (p : Places). p.journal) (is.places ∙ so.places) in
          holds_then (Change line) true is deeds (lines_now ++ line ∷ []) done.lines
          (record {
            there = λ c left. (so.shown.says, subst (λ (x : Option File). IsIn x so.shown.says) (sym (durable c left)) there);
            cross = λ c d one other f is lines reads. by_lines deeds f (bytes_of_file (d first.places.journal)) (lines_now ++ line ∷ []) lines
                (subst (λ (p : List ℕ). StandsFor (bytes_of_file (d p)) (lines_now ++ line ∷ [])) at
                (subst (StandsFor (bytes_of_file (d (path_of_store (store_in kept))))) done.lines
                (rest_has (path_of_store (store_in kept)) (lines_in (store_in kept)) (journal_of (store_in kept)).size (state kept.disk) done.whole d other)))
                reads (which c one f is);
          })
          which
          (record { says = so.shown.says; is = there; reads = subst (λ (g : replays.File). Reads deeds g (lines_now ++ line ∷ [])) (sym says) reads })
          (λ now. says ∙ sym done.file)
          (subst (λ (g : replays.File). Reads deeds g (lines_now ++ line ∷ [])) (sym done.file) reads)

      -- FILE is read anew
      reread_holds : (bytes : List ℕ) → IsCall state old (record { aim = Reload bytes; is_acknowledged = true; kept = kept }) → Holds (record { deeds = s.deeds; kept = kept })
      reread_holds bytes is =
          let done = is.done in
          let there : IsIn ((state old.disk).seen first.places.file) (book_in kept).file =
          (done.there.0, subst (λ (p : Places). (state old.disk).seen p.file ≡ Some done.there.0) so.places done.there.1, subst (λ (b : List ℕ). IsFileOf b (book_in kept).file) (sym done.there.2) done.file) in
          let says : so.shown.says ≡ (book_in kept).file = one_in ((state old.disk).seen first.places.file) (book_in kept).file so.shown.says there so.shown.is in
          let seen = subst (λ (p : Places). (state kept.disk).seen p.file ≡ (state old.disk).seen p.file) so.places is.seen in
          holds_then (Reload bytes) true is s.deeds lines_now done.lines
          (fewer s.deeds (LeavesAmid state (Reload bytes) old) (state kept.disk).may_leave (behind (Reload bytes) true is s.deeds lines_now done.lines) (reload_fits bytes))
          (λ c left f there. reload_with bytes c (behind (Reload bytes) true is s.deeds lines_now done.lines c left) f there)
          (record { says = so.shown.says; is = subst (λ (x : Option File). IsIn x so.shown.says) (sym seen) so.shown.is; reads = so.shown.reads })
          (λ now. says)
          (subst (λ (g : replays.File). Reads s.deeds g lines_now) says so.shown.reads)

      -- FILE is in its place
      placed_holds : (mode : ℕ) (text : List ℕ) (v : Served) → IsCall state old (record { aim = Place mode text v; is_acknowledged = true; kept = kept }) → Holds (record { deeds = s.deeds ++ settled text v true ∷ []; kept = kept })
      placed_holds mode text v is =
          let ready = is.done.0 in
          let done = is.done.1 in
          let deeds = s.deeds ++ settled text v true ∷ [] in
          let file = file_of text v in
          let there : (state kept.disk).seen first.places.file ≡ Some (record { mode = mode; bytes = text }) = subst (λ (p : Places). (state kept.disk).seen p.file ≡ Some (record { mode = mode; bytes = text })) so.places done.there.seen in
          let durable = subst (λ (p : Places). (c : Image) → (state kept.disk).may_leave c → c p.file ≡ (state kept.disk).seen p.file) so.places done.there.is_kept.durable in
          let reads = placed_reads text v true ready in
          let in_it = in_settled mode text v (book_in old) ready.says in
          let which : (c : Image) → (state kept.disk).may_leave c → (f : replays.File) → IsIn (c first.places.file) f → Reads deeds f lines_now =
          λ c left f is. moved_reads mode text v true ready (c first.places.file) (durable c left ∙ there) f is in
          let amid = behind (Place mode text v) true is deeds lines_now done.lines in
          holds_then (Place mode text v) true is deeds lines_now done.lines
          (record {
            there = λ c left. (file, subst (λ (x : Option File). IsIn x file) (sym (durable c left ∙ there)) in_it);
            cross = λ c d one other f is lines has. by_lines deeds f (bytes_of_file (d first.places.journal)) lines_now lines
                (let from = amid d other in journal_has mode text v true ready from.0 d from.1 (journal_past mode text v true ready d from)) has (which c one f is);
          })
          which
          (record { says = file; is = subst (λ (x : Option File). IsIn x file) (sym there) in_it; reads = reads })
          (λ now. sym done.file)
          (subst (λ (g : replays.File). Reads deeds g lines_now) (sym done.file) reads)

      -- or may be
      unplaced_holds : (mode : ℕ) (text : List ℕ) (v : Served) → IsCall state old (record { aim = Place mode text v; is_acknowledged = false; kept = kept }) → Holds (record { deeds = s.deeds ++ settled text v false ∷ []; kept = kept })
      unplaced_holds mode text v is =
          let a = settled text v false in
          let deeds = s.deeds ++ a ∷ [] in
          let ready = is.done.0 in
          let done = is.done.1 in
          let weak : (f : replays.File) → Reads s.deeds f lines_now → Reads deeds f lines_now =
          λ f reads. made_without s.deeds (book_in first).file f (book_in first).rows (replayed f (records_in lines_now)).rows a refl reads in
          let amid = behind (Place mode text v) false is deeds lines_now done.lines in
          let shown : Shows deeds lines_now ((state kept.disk).seen first.places.file) =
          ⊎_elim
          (λ same. record {
            says = so.shown.says;
            is = subst (λ (image : Image). IsIn (image first.places.file) so.shown.says) (sym same) so.shown.is;
            reads = weak so.shown.says so.shown.reads;
          })
          (λ moved. record {
            says = file_of text v;
            is = subst (λ (x : Option File). IsIn x (file_of text v)) (sym (moved_is mode text v false ready (state old.disk).seen (state kept.disk).seen moved)) (in_settled mode text v (book_in old) ready.says);
            reads = placed_reads text v false ready;
          })
          is.seen in
          holds_then (Place mode text v) false is deeds lines_now done.lines
          (fewer deeds (LeavesAmid state (Place mode text v) old) (state kept.disk).may_leave amid (place_fits mode text v false ready refl))
          (λ c left f there. place_with mode text v false ready refl c (amid c left) f there)
          shown
          (λ now.
          let still = is.sure now in
          let bytes = subst (λ (p : Places). bytes_of_file ((state kept.disk).seen p.file) ≡ bytes_of_file ((state old.disk).seen p.file)) so.places still.1 in
          in_bytes ((state old.disk).seen first.places.file) ((state kept.disk).seen first.places.file) so.shown.says bytes shown.says so.shown.is shown.is ∙ so.sure still.0 ∙ sym done.file)
          (subst (λ (g : replays.File). Reads deeds g lines_now) (sym done.file) (weak (book_in old).file reads_now))

      call_holds : (aim : Aim) (is_acknowledged : Bool) → IsCall state old (record { aim = aim; is_acknowledged = is_acknowledged; kept = kept }) → HasNoTwin state aim old
          → Holds (record { deeds = deeds_with s.deeds (book_in old).file aim is_acknowledged; kept = kept })
      call_holds (Change line) true is twin = taken_holds line is
      call_holds (Change line) false is twin =
          let a = changed line false in
          let deeds = s.deeds ++ a ∷ [] in
          let fits = line_fits a refl line (change_with line) in
          let weak : (f : replays.File) → Reads s.deeds f lines_now → Reads deeds f lines_now =
          λ f reads. made_without s.deeds (book_in first).file f (book_in first).rows (replayed f (records_in lines_now)).rows a refl reads in
          ⊎_elim
          (λ still. holds_still (Change line) false is deeds lines_now still.lines is.seen is.sure still.file fits
          (put_with deeds lines_now (IsBeforeOrAfter lines_now line) (λ c left f there. weak f (so.now c left f there))) (weak so.shown.says so.shown.reads) (weak (book_in old).file reads_now))
          (λ done. holds_still (Change line) false is deeds (lines_now ++ line ∷ []) done.lines is.seen is.sure done.file fits
          (put_with deeds (lines_now ++ line ∷ []) (IsBeforeOrAfter lines_now line) (change_with line)) (change_reads line so.shown.says so.shown.reads) (change_reads line (book_in old).file reads_now))
          is.done
      call_holds Compact is_acknowledged is twin =
          let fits = amid_call Compact is_acknowledged kept is.done twin in
          let P : List ℕ → Type 0 = λ bytes. StandsFor bytes (compacted_lines lines_now) in
          ⊎_elim
          (λ still. holds_still Compact is_acknowledged is s.deeds lines_now still.lines is.seen is.sure still.file fits
          (λ c left f there. put_with s.deeds lines_now P so.now c left.1 f there) so.shown.reads reads_now)
          (λ (worth, over). holds_still Compact is_acknowledged is s.deeds (compacted_lines lines_now) over.lines_are is.seen is.sure over.file fits
          (λ c left f there. put_with s.deeds (compacted_lines lines_now) P (λ d was g has. compacted_reads worth g (so.now d was g has)) c left.1 f there)
          (compacted_reads worth so.shown.says so.shown.reads) (compacted_reads worth (book_in old).file reads_now))
          is.done
      call_holds (Reload bytes) true is twin = reread_holds bytes is
      call_holds (Reload bytes) false is twin =
          holds_still (Reload bytes) false is s.deeds lines_now is.done.lines is.seen is.sure is.done.file (reload_fits bytes) (reload_with bytes) so.shown.reads reads_now
      call_holds (Mark text v) is_acknowledged is twin =
          let a = settled text v false in
          let deeds = s.deeds ++ a ∷ [] in
          let says = is.done.0 in
          let line = mark_line text in
          let fits = line_fits a refl line (mark_with text v says twin) in
          let weak : (f : replays.File) → Reads s.deeds f lines_now → Reads deeds f lines_now =
          λ f reads. made_without s.deeds (book_in first).file f (book_in first).rows (replayed f (records_in lines_now)).rows a refl reads in
          let none = subst (λ (p : Places). (file : File) → (state old.disk).seen p.file ≡ Some file → fingerprint file.bytes ≡ fingerprint text → file.bytes ≡ text) so.places (twin (state old.disk).seen (inr refl)) in
          ⊎_elim
          (λ still. holds_still (Mark text v) is_acknowledged is deeds lines_now still.lines is.seen is.sure still.file fits
          (put_with deeds lines_now (IsBeforeOrAfter lines_now line) (λ c left f there. weak f (so.now c left f there))) (weak so.shown.says so.shown.reads) (weak (book_in old).file reads_now))
          (λ over.
          let rows : (replayed (book_in old).file (records_in (lines_now ++ line ∷ []))).rows ≡ (book_in old).rows =
          ap (λ (ls : List (List ℕ)). (replayed (book_in old).file (records_in ls)).rows) (sym over.lines_are)
          ∙ ap (λ (f : replays.File). (replayed f (records_in (lines_in (store_in kept)))).rows) (sym over.file) ∙ is.keeping.replayed ∙ over.rows in
          holds_still (Mark text v) is_acknowledged is deeds (lines_now ++ line ∷ []) over.lines_are is.seen is.sure over.file fits
          (put_with deeds (lines_now ++ line ∷ []) (IsBeforeOrAfter lines_now line) (mark_with text v says twin))
          (mark_reads text v says ((state old.disk).seen first.places.file) none so.shown.says so.shown.is so.shown.reads)
          (subst (Makes deeds (book_in old).file) (sym rows) (made_without s.deeds (book_in first).file (book_in old).file (book_in first).rows (book_in old).rows a refl so.held)))
          is.done.1
      call_holds (Place mode text v) true is twin = placed_holds mode text v is
      call_holds (Place mode text v) false is twin = unplaced_holds mode text v is
      call_holds (HandOver text) is_acknowledged is twin =
          let all = is.done.0 in
          let fits = hand_fits text all in
          ⊎_elim
          (λ still. holds_still (HandOver text) is_acknowledged is s.deeds lines_now still.lines is.seen is.sure still.file fits (hand_with text all lines_now so.now) so.shown.reads reads_now)
          (λ over. holds_still (HandOver text) is_acknowledged is s.deeds (damaged lines_now) over.lines_are is.seen is.sure over.file fits
          (hand_with text all (damaged lines_now) (λ c left f there. unrecorded_reads text all f (alone_there text all c left f there)))
          (unrecorded_reads text all so.shown.says (so.sure all.sure)) (unrecorded_reads text all (book_in old).file refl))
          is.done.1
      call_holds Alone is_acknowledged is twin = holds_still Alone is_acknowledged is s.deeds lines_now is.done.lines is.seen is.sure is.done.file so.fits so.now so.shown.reads reads_now

  -- ---- the end of a process

  -- what is seen of a disk, and what a loss of power may leave of it
  abbrev IsOf : DiskState → Image → Type 0
  IsOf s c = s.may_leave c ⊎ (c ≡ s.seen)

  of_left : (deeds : List Answered) (P : Image → Type 0) (s : DiskState) → Fits deeds P → IsLeft P s → Fits deeds (IsOf s)
  of_left deeds P s fits left = fewer deeds P (IsOf s) (λ c is. ⊎_elim (λ may. left.left c may) (λ same. subst P (sym same) left.seen) is) fits

  -- a start, cut short or not
  module _ (deeds : List Answered) (s : DiskState) (lines : List (List ℕ)) (fits : Fits deeds (IsOf s)) (read : StandsFor (bytes_of_file (s.seen first.places.journal)) lines) where
    start_there : (c : Image) → (left : LeftByStart lines first.places s c) → c first.places.file ≡ left.was first.places.file
    start_there c left = left.elsewhere first.places.file (journal_is_other first.places safe.apart) (apart_back first.places.file first.places.aside (file_is_not_aside first.places safe.apart))
        (apart_back first.places.file first.places.copy (file_is_other first.places safe.apart))

    -- with the same records
    start_with : (now : List (List ℕ)) → records_in now ≡ records_in lines → FitsWith deeds now (LeftByStart lines first.places s)
    start_with now same c left f is = subst (λ (rs : List Record). Makes deeds f (replayed f rs).rows) (sym same)
        (fits.cross left.was s.seen (inl left.before) (inr refl) f (subst (λ (x : Option File). IsIn x f) (start_there c left) is) lines read)

    start_fits : Fits deeds (LeftByStart lines first.places s)
    start_fits = record {
      there = λ c left. subst (λ (x : Option File). (f : replays.File) × IsIn x f) (sym (start_there c left)) (fits.there left.was (inl left.before));
      cross = λ c d one other f is others reads. ⊎_elim
          (λ same. fits.cross one.was other.was (inl one.before) (inl other.before) f (subst (λ (x : Option File). IsIn x f) (start_there c one) is) others
          (subst (λ (x : Option File). StandsFor (bytes_of_file x) others) same reads))
          (λ (now, stands, same). by_lines deeds f (bytes_of_file (d first.places.journal)) now others stands reads (start_with now same c one f is))
          other.journal;
    }

  cut_short : (deeds : List Answered) (found : D) (more : List D) → Fits deeds (IsOf (state found)) → AreCutShort state first.places found more → Fits deeds (IsOf (state (last_of found more)))
  cut_short deeds found [] all cut = all
  cut_short deeds found (next ∷ more) all ((lines, reads, left), cut) =
      cut_short deeds next more (of_left deeds (LeftByStart lines first.places (state found)) (state next) (start_fits deeds (state found) lines all reads) left) cut

  end_holds : (s : Standing D) → Holds s → (e : End D) → IsEnd state s.kept e → Holds (record { deeds = deeds_at_end s.deeds (book_in s.kept).file e.amid; kept = e.opened.state })
  end_holds s so e is =
      let deeds = deeds_at_end s.deeds (book_in s.kept).file e.amid in
      let found = of_left deeds (LeftAtEnd state s.kept e.amid) (state e.found) (fits_at_end s so e.amid e.found is.left) is.left in
      let t = state (last_of e.found e.cut_short) in
      let u = state e.opened.state.disk in
      let all = cut_short deeds e.found e.cut_short found (subst (λ (p : Places). AreCutShort state p e.found e.cut_short) so.places is.cut) in
      let o = subst (λ (p : Places). IsOpenedState true (Some e.file.bytes) e.copy p t u e.opened) so.places is.opened in
      let book = subst (λ (fault : Option FileFault). BookIsFrom (Some e.file.bytes) e.copy fault (records_in o.lines) (book_in e.opened.state) e.opened.notes.items) is.served o.over.book in
      let file = (book_in e.opened.state).file in
      let there : IsIn (t.seen first.places.file) file = (e.file, subst (λ (p : Places). t.seen p.file ≡ Some e.file) so.places is.read, book.file) in
      let reads : Reads deeds file o.lines = all.cross t.seen t.seen (inr refl) (inr refl) file there o.lines (o.read refl) in
      let now = lines_in (store_in e.opened.state) in
      let same : records_in now ≡ records_in o.lines = aside_records o.lines e.opened.aside now o.over.aside in
      let behind : (c : Image) → u.may_leave c → LeftByStart o.lines first.places t c = at_end t u (LeftByStart o.lines first.places t) (o.any_moment refl) (counts e.opened.state.disk) in
      let seen : u.seen first.places.file ≡ t.seen first.places.file =
      o.others refl first.places.file (journal_is_other first.places safe.apart) (apart_back first.places.file first.places.aside (file_is_not_aside first.places safe.apart))
      (apart_back first.places.file first.places.copy (file_is_other first.places safe.apart)) in
      record {
        held = subst (Makes deeds file) (ap (λ (r : ReplayState). r.rows) book.rows) reads;
        fits = fewer deeds (LeftByStart o.lines first.places t) u.may_leave behind (start_fits deeds t o.lines all (o.read refl));
        now = λ c left f is. start_with deeds t o.lines all (o.read refl) now same c (behind c left) f is;
        shown = record {
          says = file;
          is = subst (λ (x : Option File). IsIn x file) (sym seen) there;
          reads = subst (λ (rs : List Record). Makes deeds file (replayed file rs).rows) (sym same) reads;
        };
        sure = λ now. refl;
        places = o.over.places_are;
        keeping = is.keeping;
      }

  all_hold : (events : List (Event D)) (s : Standing D) → Holds s → AllHappen state s events → Holds (standing_after_all s events)
  all_hold [] s so happened = so
  all_hold (inl call ∷ events) s so happened = all_hold events (standing_after s (inl call)) (call_holds s so call.kept call.aim call.is_acknowledged happened.0.0 happened.0.1) happened.1
  all_hold (inr e ∷ events) s so happened = all_hold events (standing_after s (inr e)) (end_holds s so e happened.0) happened.1

  at_first : Holds (record { deeds = []; kept = first })
  at_first =
      let file = (book_in first).file in
      let lines = lines_in (store_in first) in
      let reads : Reads [] file lines = (refl, safe.keeping.replayed) in
      let there : (c : Image) → (state first.disk).may_leave c → IsIn (c first.places.file) file = λ c left. subst (λ (x : Option File). IsIn x file) (sym (safe.durable.durable c left)) safe.file in
      let with : FitsWith [] lines (state first.disk).may_leave = λ c left f is. subst (λ (g : replays.File). Reads [] g lines) (sym (one_in (c first.places.file) file f (there c left) is)) reads in
      record {
        held = (refl, refl);
        fits = record {
          there = λ c left. (file, there c left);
          cross = λ c d one other f is others has. by_lines [] f (bytes_of_file (d first.places.journal)) lines others
              (subst (λ (p : List ℕ). StandsFor (bytes_of_file (d p)) lines) safe.keeping.path (rest_has (path_of_store (store_in first)) lines (journal_of (store_in first)).size (state first.disk) safe.whole d other))
              has (with c one f is);
        };
        now = with;
        shown = record { says = file; is = safe.file; reads = reads };
        sure = λ now. refl;
        places = refl;
        keeping = safe.keeping;
      }

  pub holds_after : (events : List (Event D)) → AllHappen state (record { deeds = []; kept = first }) events → AllHold state first (standing_after_all (record { deeds = []; kept = first }) events)
  holds_after events happened =
      let all = all_hold events (record { deeds = []; kept = first }) at_first happened in
      record {
        held = all.held;
        left = λ c left lines reads. let has = all.fits.there c left in (has.0, has.1, all.fits.cross c c left left has.0 has.1 lines reads);
      }

pub over_starts : {D : Type 0} (state : D → DiskState) → ((disk : D) (t : ℕ) (c : Image) → t ≤ (state disk).moment → (state disk).may_leave c → (state disk).left_since t c) → OneReading → OverStarts state
over_starts state counts once first safe events happened = holds_after state counts once first safe events happened
