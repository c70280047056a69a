-- Lives: what is kept from one process to the next, through changes, settles, kills and losses of power.
-- Source: this project's own.
use Rattle.std.specs.Prelude.{◌≡◌, ◌⊎◌, ℕ, Bool, true, false, if◌then◌else◌, List, [], ◌∷◌, ◌++◌, Option, Some, None, Result, Ok, Err, bytes_eq}
use Rattle.std.proofs.Common.{inl, inr}
use Rattle.state_changes.specs.{declared.change.Record.Record, declared.fault.ChangeFault.ChangeFault, declared.row.Row.Row, Changes.rows_changed, Records.record_of, Replay.is_as_then, Replay.replayed, Words.fingerprint}
use Rattle.state_changes.specs.declared.change.Record.TheVariants.{Made, Settling}
use Rattle.state_changes.specs.declared.replaying.File as replays
use Rattle.base_disk.specs.{Image.File, Image.Image, Torn.MovesFile}
use Rattle.base_disk.specs.State.{DiskKeeps, DiskState, IsAfter, LeavesOnly}
use Rattle.vault_inventory.specs.Served.{Served}
use Rattle.base_journal.specs.Records.{IsBeforeOrAfter, StandsFor}
use Rattle.base_journal.specs.Journals.{CrashLeaves, Exchanging, FileIsThere, JournalIsWhole, bytes_of_file}
use Rattle.state_file.specs.{Order.in_order, Settled.TextIsSettled}
use Rattle.state_store.specs.{Books.IsFileOf, Books.file_of, Records.records_in}
use Rattle.state_store.specs.Compacted.{compacted_lines, damaged, is_worth}
use Rattle.state_store.specs.Moved.{SaysAllKept, SaysByItself, mark_line}
use Rattle.state_store.specs.Stores.{is_sure, journal_of, lines_in, path_of_store}
use Rattle.state_keeping.specs.{declared.opening.OpenedState.OpenedState, Opens.IsOpenedState, Places.Places, Places.PlacesAreApart, Recovers.LeftByStart, Settles.copy_with}
use Rattle.state_keeping.specs.States.{IsKeeping, Kept, book_in, store_in}

-- ---- changes and settlings

abbrev pub rows_or : List Row → Result (List Row) ChangeFault → List Row
rows_or rows (Ok new) = new
rows_or rows (Err fault) = rows

-- the rows after a record, beside a file: a change is made where the file says of its word what it said then, and it is not refused
abbrev pub rows_after : replays.File → List Row → Record → List Row
rows_after f rows (Settling mark) = if bytes_eq mark f.mark then f.rows else rows
rows_after f rows (Made c) = if is_as_then f.rows c then rows_or rows (rows_changed f.margin rows c.name c.what) else rows

abbrev pub rows_if : replays.File → List Row → Option Record → List Row
rows_if f rows None = rows
rows_if f rows (Some r) = rows_after f rows r

-- after the record in a line
abbrev pub rows_with : replays.File → List ℕ → List Row → List Row
rows_with f line rows = rows_if f rows (record_of line)

-- what is done: a change, by the line that keeps it, which was given beside this file; or FILE becomes what is kept, with this text, which
-- is read as that inventory
pub data Deed : Type 0 where
  Changed : replays.File → List ℕ → Deed
  Settled : List ℕ → Served → Deed

-- what it makes of FILE, and of the rows
abbrev pub file_by : Deed → replays.File → replays.File
file_by (Changed g line) f = f
file_by (Settled text v) f = file_of text v

abbrev pub rows_by : Deed → replays.File → List Row → List Row
rows_by (Changed g line) f rows = rows_with f line rows
rows_by (Settled text v) f rows = in_order rows

-- a change that was acknowledged is made beside the very file that it was given beside; and FILE becomes a text that says all the rows
abbrev pub MayBeDone : Deed → Bool → replays.File → List Row → Type 0
MayBeDone (Changed g line) true f rows = f ≡ g
MayBeDone (Changed g line) false f rows = Unit {0}
MayBeDone (Settled text v) is_acknowledged f rows = TextIsSettled (Some f.margin) f.system_max rows text v

pub record Answered : Type 0 where
  pub deed : Deed
  pub is_acknowledged : Bool

-- the first FILE and rows are made the second ones by these deeds in their order: by each that was acknowledged, and with or without each
-- other
abbrev pub DeedsMake : List Answered → replays.File → List Row → replays.File → List Row → Type 0
DeedsMake [] from rows file now = (file ≡ from) × (now ≡ rows)
DeedsMake (a ∷ more) from rows file now = (MayBeDone a.deed a.is_acknowledged from rows × DeedsMake more (file_by a.deed from) (rows_by a.deed from rows) file now)
    ⊎ ((a.is_acknowledged ≡ false) × DeedsMake more from rows file now)

-- ---- calls

-- what a call, or a step of one, is for: a change, by its line; a compaction that is worth while; a reload of FILE, which has these bytes;
-- the three steps of a settling, by the text that FILE is to have: its mark is put in the journal, FILE gets it with this mode, and then
-- the copy, and the records are taken out of the journal; or what leaves all files alone
pub data Aim : Type 0 where
  Change : List ℕ → Aim
  Compact : Aim
  Reload : List ℕ → Aim
  Mark : List ℕ → Served → Aim
  Place : ℕ → List ℕ → Served → Aim
  HandOver : List ℕ → Aim
  Alone : Aim

-- a call: whether it was acknowledged, and what is kept then
pub record Call (D : Type 0) : Type 0 where
  pub aim : Aim
  pub is_acknowledged : Bool
  pub kept : Kept D

-- what a crash amid it leaves
abbrev pub LeavesAmid : {D : Type 0} → (D → DiskState) → Aim → Kept D → Image → Type 0
LeavesAmid state (Change line) old c = CrashLeaves (path_of_store (store_in old)) (IsBeforeOrAfter (lines_in (store_in old)) line) (state old.disk) c
LeavesAmid state Compact old c = (is_worth (lines_in (store_in old)) ≡ true)
    × CrashLeaves (path_of_store (store_in old)) (λ bytes. StandsFor bytes (compacted_lines (lines_in (store_in old)))) (state old.disk) c
LeavesAmid state (Reload bytes) old c = IsAfter (MovesFile old.places.copy (copy_with bytes)) (state old.disk) c
LeavesAmid state (Mark text v) old c = CrashLeaves (path_of_store (store_in old)) (IsBeforeOrAfter (lines_in (store_in old)) (mark_line text)) (state old.disk) c
LeavesAmid state (Place mode text v) old c = IsAfter (MovesFile old.places.file (record { mode = mode; bytes = text })) (state old.disk) c
LeavesAmid state (HandOver text) old c = Exchanging (path_of_store (store_in old)) old.places.copy (copy_with text) (λ bytes. StandsFor bytes (damaged (lines_in (store_in old)))) (state old.disk) c
LeavesAmid state Alone old c = (state old.disk).may_leave c

-- the lines of the journal, what was read of FILE, and the rows are as they were
pub record IsStill {D : Type 0} (old new : Kept D) : Type 0 where
  pub lines : lines_in (store_in new) ≡ lines_in (store_in old)
  pub file : (book_in new).file ≡ (book_in old).file
  pub rows : (book_in new).rows ≡ (book_in old).rows

-- a line more is in the journal, which is on the disk
pub record IsTaken {D : Type 0} (state : D → DiskState) (line : List ℕ) (old new : Kept D) : Type 0 where
  pub lines : lines_in (store_in new) ≡ lines_in (store_in old) ++ line ∷ []
  pub file : (book_in new).file ≡ (book_in old).file
  pub whole : JournalIsWhole (journal_of (store_in new)) (state new.disk)

-- the rows are as they were, over these lines
pub record IsOver {D : Type 0} (lines : List (List ℕ)) (old new : Kept D) : Type 0 where
  pub lines_are : lines_in (store_in new) ≡ lines
  pub file : (book_in new).file ≡ (book_in old).file
  pub rows : (book_in new).rows ≡ (book_in old).rows

-- FILE is read anew, as it is seen
pub record IsReread {D : Type 0} (state : D → DiskState) (bytes : List ℕ) (old new : Kept D) : Type 0 where
  pub there : (file : File) × ((state old.disk).seen old.places.file ≡ Some file) × (file.bytes ≡ bytes)
  pub file : IsFileOf bytes (book_in new).file
  pub lines : lines_in (store_in new) ≡ lines_in (store_in old)

-- FILE may get this text: it says all that is kept, and the journal is on the disk with its mark
pub record IsReady {D : Type 0} (state : D → DiskState) (text : List ℕ) (v : Served) (old : Kept D) : Type 0 where
  pub says : SaysAllKept (book_in old) text v
  pub marked : (before : List (List ℕ)) × (lines_in (store_in old) ≡ before ++ mark_line text ∷ [])
  pub whole : JournalIsWhole (journal_of (store_in old)) (state old.disk)

-- FILE has it, and is on the disk
pub record IsPlaced {D : Type 0} (state : D → DiskState) (mode : ℕ) (text : List ℕ) (v : Served) (old new : Kept D) : Type 0 where
  pub there : FileIsThere old.places.file (record { mode = mode; bytes = text }) (state new.disk)
  pub file : (book_in new).file ≡ file_of text v
  pub rows : (book_in new).rows ≡ in_order (book_in old).rows
  pub lines : lines_in (store_in new) ≡ lines_in (store_in old)

-- the records may be taken out of the journal: FILE is the one that was read, it is on the disk, and gives the rows by itself
pub record IsAllInFile {D : Type 0} (state : D → DiskState) (old : Kept D) : Type 0 where
  pub by_itself : SaysByItself (store_in old)
  pub sure : is_sure (store_in old) ≡ true
  pub durable : DiskKeeps old.places.file (state old.disk)

-- what a call has done. A change counts as acknowledged where FILE is on the disk too: where no call on it has failed
abbrev pub IsDone : {D : Type 0} → (D → DiskState) → Aim → Bool → Kept D → Kept D → Type 0
IsDone state (Change line) true old new = IsTaken state line old new × (is_sure (store_in old) ≡ true) × DiskKeeps old.places.file (state new.disk)
IsDone state (Change line) false old new = IsStill old new ⊎ IsTaken state line old new
IsDone state Compact is_acknowledged old new = IsStill old new ⊎ ((is_worth (lines_in (store_in old)) ≡ true) × IsOver (compacted_lines (lines_in (store_in old))) old new)
IsDone state (Reload bytes) true old new = IsReread state bytes old new
IsDone state (Reload bytes) false old new = IsStill old new
IsDone state (Mark text v) is_acknowledged old new = SaysAllKept (book_in old) text v × (IsStill old new ⊎ IsOver (lines_in (store_in old) ++ mark_line text ∷ []) old new)
IsDone state (Place mode text v) true old new = IsReady state text v old × IsPlaced state mode text v old new
IsDone state (Place mode text v) false old new = IsReady state text v old × IsStill old new
IsDone state (HandOver text) is_acknowledged old new = IsAllInFile state old × (IsStill old new ⊎ IsOver (damaged (lines_in (store_in old))) old new)
IsDone state Alone is_acknowledged old new = IsStill old new

-- the store is not sure where it was not; but where FILE was read, or is in its place. Where it could not be put there the store is sure
-- only of the one that was there
abbrev pub IsSureStill : {D : Type 0} → (D → DiskState) → Aim → Bool → Kept D → Kept D → Type 0
IsSureStill state (Reload bytes) true old new = Unit {0}
IsSureStill state (Place mode text v) true old new = Unit {0}
IsSureStill state (Place mode text v) false old new = is_sure (store_in new) ≡ true
    → (is_sure (store_in old) ≡ true) × (bytes_of_file ((state new.disk).seen old.places.file) ≡ bytes_of_file ((state old.disk).seen old.places.file))
IsSureStill state aim is_acknowledged old new = is_sure (store_in new) ≡ true → is_sure (store_in old) ≡ true

-- FILE is seen as before, but where it is put in its place
abbrev pub IsSeen : {D : Type 0} → (D → DiskState) → Aim → Kept D → Kept D → Type 0
IsSeen state (Place mode text v) old new = MovesFile old.places.file (record { mode = mode; bytes = text }) (state old.disk).seen (state new.disk).seen
IsSeen state aim old new = (state new.disk).seen old.places.file ≡ (state old.disk).seen old.places.file

pub record IsCall {D : Type 0} (state : D → DiskState) (old : Kept D) (call : Call D) : Type 0 where
  pub done : IsDone state call.aim call.is_acknowledged old call.kept
  pub sure : IsSureStill state call.aim call.is_acknowledged old call.kept
  pub seen : IsSeen state call.aim old call.kept
  pub places : call.kept.places ≡ old.places
  pub keeping : IsKeeping true call.kept.keeper call.kept.places (state call.kept.disk)
  pub any_moment : LeavesOnly (state old.disk) (state call.kept.disk) (LeavesAmid state call.aim old)

-- no FILE that is seen, or that a loss of power may leave, has the fingerprint of another text that it is to have (SHA-256)
abbrev pub HasNoTwin : {D : Type 0} → (D → DiskState) → Aim → Kept D → Type 0
HasNoTwin state (Mark text v) old = (c : Image) → (state old.disk).may_leave c ⊎ (c ≡ (state old.disk).seen)
    → (file : File) → c old.places.file ≡ Some file → fingerprint file.bytes ≡ fingerprint text → file.bytes ≡ text
HasNoTwin state aim old = Unit {0}

-- ---- a settling

-- FILE has its text, or may have; and then the copy may have it, and the journal may be without its records
abbrev pub PlacesInSteps : {D : Type 0} → (D → DiskState) → ℕ → List ℕ → Served → Kept D → Kept D → Type 0
PlacesInSteps {D} state mode text v old new = (is_placed : Bool) × (IsCall state old (record { aim = Place mode text v; is_acknowledged = is_placed; kept = new })
    ⊎ ((placed : Kept D) × IsCall state old (record { aim = Place mode text v; is_acknowledged = is_placed; kept = placed })
    × IsCall state placed (record { aim = HandOver text; is_acknowledged = true; kept = new })))

-- the journal has the mark, or may have; and then FILE
abbrev pub MarksInSteps : {D : Type 0} → (D → DiskState) → Kept D → Kept D → Type 0
MarksInSteps {D} state old new = (mode : ℕ) × (text : List ℕ) × (v : Served) × (IsCall state old (record { aim = Mark text v; is_acknowledged = true; kept = new })
    ⊎ ((marked : Kept D) × IsCall state old (record { aim = Mark text v; is_acknowledged = true; kept = marked }) × PlacesInSteps state mode text v marked new))

-- A settling is these steps, each from where the one before it ended: FILE is read; and then, where there is something to settle, the
-- journal gets the mark, FILE its text, the copy FILE's, and the journal loses its records. Any of them may be the last.
abbrev pub SettlesInSteps : {D : Type 0} → (D → DiskState) → Kept D → Kept D → Type 0
SettlesInSteps {D} state old new = IsCall state old (record { aim = Alone; is_acknowledged = true; kept = new })
    ⊎ ((read : Kept D) × IsCall state old (record { aim = Alone; is_acknowledged = true; kept = read }) × MarksInSteps state read new)

-- ---- the end of a process, and the next one

-- what is seen then, and what a loss of power may leave of it, are images of this kind
pub record IsLeft (P : Image → Type 0) (s : DiskState) : Type 0 where
  pub seen : P s.seen
  pub left : (c : Image) → s.may_leave c → P c

-- each of these disks is what a start over the one before has left that was cut short at some moment
abbrev pub AreCutShort : {D : Type 0} → (D → DiskState) → Places → D → List D → Type 0
AreCutShort state places found [] = Unit {0}
AreCutShort state places found (next ∷ more) =
    ((lines : List (List ℕ)) × StandsFor (bytes_of_file ((state found).seen places.journal)) lines × IsLeft (LeftByStart lines places (state found)) (state next)) × AreCutShort state places next more

abbrev pub last_of : {D : Type 0} → D → List D → D
last_of found [] = found
last_of found (next ∷ more) = last_of next more

-- a process ends, between two calls or amid one that would have gone like this; the next starts find these disks; and the last of them
-- opens what is kept, with FILE as it stands
pub record End (D : Type 0) : Type 0 where
  pub amid : Option (Call D)
  pub found : D
  pub cut_short : List D
  pub file : File
  pub copy : Option (List ℕ)
  pub opened : OpenedState D

-- what a loss of power might have left at that end
abbrev pub LeftAtEnd : {D : Type 0} → (D → DiskState) → Kept D → Option (Call D) → Image → Type 0
LeftAtEnd state old None c = (state old.disk).may_leave c
LeftAtEnd state old (Some call) c = IsCall state old call × HasNoTwin state call.aim old × (state call.kept.disk).left_since (state old.disk).moment c

pub record IsEnd {D : Type 0} (state : D → DiskState) (old : Kept D) (e : End D) : Type 0 where
  pub left : IsLeft (LeftAtEnd state old e.amid) (state e.found)
  pub cut : AreCutShort state old.places e.found e.cut_short
  pub read : (state (last_of e.found e.cut_short)).seen old.places.file ≡ Some e.file
  pub opened : IsOpenedState true (Some e.file.bytes) e.copy old.places (state (last_of e.found e.cut_short)) (state e.opened.state.disk) e.opened
  pub served : e.opened.fault ≡ None
  pub keeping : IsKeeping true e.opened.state.keeper e.opened.state.places (state e.opened.state.disk)

-- ---- what happens

abbrev pub Event : Type 0 → Type 0
Event D = Call D ⊎ End D

-- what is kept, and what this process and those before it have done, in order
pub record Standing (D : Type 0) : Type 0 where
  pub deeds : List Answered
  pub kept : Kept D

abbrev pub Happens : {D : Type 0} → (D → DiskState) → Standing D → Event D → Type 0
Happens state old (inl call) = IsCall state old.kept call × HasNoTwin state call.aim old.kept
Happens state old (inr e) = IsEnd state old.kept e

-- a settling is among them when its mark is put, as one that may be made or not; and when FILE is put in its place, as one that is made
-- where that went well
abbrev pub deeds_with : List Answered → replays.File → Aim → Bool → List Answered
deeds_with deeds f (Change line) is_acknowledged = deeds ++ record { deed = Changed f line; is_acknowledged = is_acknowledged } ∷ []
deeds_with deeds f (Mark text v) is_acknowledged = deeds ++ record { deed = Settled text v; is_acknowledged = false } ∷ []
deeds_with deeds f (Place mode text v) is_acknowledged = deeds ++ record { deed = Settled text v; is_acknowledged = is_acknowledged } ∷ []
deeds_with deeds f aim is_acknowledged = deeds

-- what its process did not live to see answered is one that was not acknowledged
abbrev pub deeds_at_end : {D : Type 0} → List Answered → replays.File → Option (Call D) → List Answered
deeds_at_end deeds f None = deeds
deeds_at_end deeds f (Some call) = deeds_with deeds f call.aim false

abbrev pub standing_after : {D : Type 0} → Standing D → Event D → Standing D
standing_after old (inl call) = record { deeds = deeds_with old.deeds (book_in old.kept).file call.aim call.is_acknowledged; kept = call.kept }
standing_after old (inr e) = record { deeds = deeds_at_end old.deeds (book_in old.kept).file e.amid; kept = e.opened.state }

abbrev pub AllHappen : {D : Type 0} → (D → DiskState) → Standing D → List (Event D) → Type 0
AllHappen state old [] = Unit {0}
AllHappen state old (e ∷ es) = Happens state old e × AllHappen state (standing_after old e) es

abbrev pub standing_after_all : {D : Type 0} → Standing D → List (Event D) → Standing D
standing_after_all old [] = old
standing_after_all old (e ∷ es) = standing_after_all (standing_after old e) es

-- ---- what holds then

-- the journal is on the disk, and so is FILE, which is the one that was read: as once a change was acknowledged
pub record IsOnDisk {D : Type 0} (state : D → DiskState) (kept : Kept D) : Type 0 where
  pub keeping : IsKeeping true kept.keeper kept.places (state kept.disk)
  pub apart : PlacesAreApart kept.places
  pub whole : JournalIsWhole (journal_of (store_in kept)) (state kept.disk)
  pub durable : DiskKeeps kept.places.file (state kept.disk)
  pub file : (file : File) × ((state kept.disk).seen kept.places.file ≡ Some file) × IsFileOf file.bytes (book_in kept).file

-- such a file is there, and says this
abbrev pub IsIn : Option File → replays.File → Type 0
IsIn there f = (file : File) × (there ≡ Some file) × IsFileOf file.bytes f

-- What was read of FILE, and the rows that are served, are what the deeds since have made of the first ones; and so are those that a start
-- reads of whatever a loss of power may leave: of its FILE, which is a good one, and of its journal.
pub record AllHold {D : Type 0} (state : D → DiskState) (first : Kept D) (s : Standing D) : Type 0 where
  pub held : DeedsMake s.deeds (book_in first).file (book_in first).rows (book_in s.kept).file (book_in s.kept).rows
  pub left : (c : Image) → (state s.kept.disk).may_leave c → (lines : List (List ℕ)) → StandsFor (bytes_of_file (c first.places.journal)) lines
      → (f : replays.File) × IsIn (c first.places.file) f × DeedsMake s.deeds (book_in first).file (book_in first).rows f (replayed f (records_in lines)).rows

-- it is so after any number of changes, compactions, reloads, settlings, kills and losses of power, in any order
abbrev pub OverStarts : {D : Type 0} → (D → DiskState) → Type 0
OverStarts {D} state = (first : Kept D) → IsOnDisk state first → (events : List (Event D)) → AllHappen state (record { deeds = []; kept = first }) events
    → AllHold state first (standing_after_all (record { deeds = []; kept = first }) events)
