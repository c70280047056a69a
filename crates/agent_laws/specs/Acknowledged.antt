-- Acknowledged: whoever is told `ok` in a run of a house has asked for it, and the change is on the disk that it has asked for; or is shown
-- a page, or follows the log. The law is the contract of a public function without a body.
-- Source: docs/running.md, "What holds after a crash".
use Rattle.std.specs.Prelude.{◌≡◌, ◌⊎◌, ◌/◌, ℕ, Bool, IsTrue, List, [], ◌∷◌, ◌++◌, Option, Some, None, Ok, codes, drop, slice_get}
use Rattle.std.specs.List.{Contains}
use Rattle.agent_standing.specs.Agent.{Agent}
use Rattle.agent_answers.specs.{Controlling.IsShownText, Wanting.ClientWants, declared.asked.ClientOrder.ClientOrder, declared.control.Control.Control}
use Rattle.agent_answers.specs.declared.asked.ClientOrder.TheVariants as asked
use Rattle.agent_answers.specs.declared.wanted.Wanted.TheVariants as wanted
use Rattle.agent_pages.specs.{Naming.Around, declared.asked.Page.Page}
use Rattle.vault_asking.specs.Sending.{Lanes}
use Rattle.agent_behind.specs.{Behinds.PassesBehind, declared.behind.Behind.Behind}
use Rattle.state_changes.specs.{Listed.rows_of_served, Words.fingerprint, declared.change.ChangeKind.ChangeKind, declared.replaying.JournalNote.JournalNote, declared.row.Row.Row}
use Rattle.state_changes.specs.declared.change.ChangeKind.TheVariants as what
use Rattle.base_clients.specs.{Doors.DoorLog, declared.guest.Guest.Guest, declared.stage.GuestStage.GuestStage, declared.talk.TalkCall.TalkCall}
use Rattle.base_clients.specs.declared.stage.GuestStage.TheVariants as stages
use Rattle.base_clock.specs.declared.reading.Reading.{Reading}
use Rattle.base_device.specs.declared.tried.Tried.{Tried}
use Rattle.base_disk.specs.{Image.Image, State.DiskState}
use Rattle.base_journal.specs.Records.{StandsFor}
use Rattle.base_journal.specs.Journals.{FileIsThere, JournalIsWhole, bytes_of_file}
use Rattle.vault_inventory.specs.{Inventory.read_served, Served.Served}
use Rattle.state_secrets.specs.Stamps.{FileCall}
use Rattle.agent_turns.specs.{Calls.calls_of, Days.PassesToOthers, Held.ServingSide, Runs.AreTurns, Turns.ServingTurn, declared.day.EarlyDay.EarlyDay}
use Rattle.agent_turns.specs.Neighbours.{AllCalled, Give, GoOn, Hear, NeighbourCall, Rest, Settle, WithCalls}
use Rattle.state_keeping.specs.{Settles.copy_with, Tables.row_of_table}
use Rattle.state_keeping.specs.States.{Kept, book_in, store_in}
use Rattle.state_store.specs.{Books.IsBookIf, Books.file_of, Entering.line_for_change, Moved.SaysAlready, Records.records_in}
use Rattle.state_store.specs.Stores.{journal_of, lines_in, path_of_store}
use Rattle.agent_ledger.specs.{Rereading.AreBytesOf, declared.late.Late.Late}
use Rattle.agent_house.specs.{Admitting.asking_in, Houses.ClientsAsk, declared.house.House.House}
use Rattle.agent_ledger.specs.declared.late.Late.TheVariants as lates
use Rattle.agent_laws.specs.Disks.{ToLedger}

-- ---- who is told so

abbrev pub guests_in : {T D : Type 0} → Option (Control T D) → List (Guest T)
guests_in None = []
guests_in (Some control) = control.clients.guests

-- what is left to be written of the answer that a client is given
abbrev pub answer_in : GuestStage → Option (List ℕ)
answer_in (stages.Reading bytes) = None
answer_in (stages.Asked bytes) = None
answer_in stages.Waiting = None
answer_in (stages.Answering left) = Some left
answer_in (stages.Following left) = Some left
answer_in stages.Over = None

-- a client is there whose answer begins with `ok`
pub record HasOk {T : Type 0} (guests : List (Guest T)) : Type 0 where
  pub place : ℕ
  pub client : Guest T
  pub more : List ℕ
  pub there : slice_get guests place ≡ Some client
  pub says : answer_in client.stage ≡ Some (codes "ok" ++ more)

-- at this place it was before, under its number, and this is so of it then
pub record WasThere {T : Type 0} (old : List (Guest T)) (place : ℕ) (client : Guest T) (IsSo : Guest T → Type 0) : Type 0 where
  pub before : Guest T
  pub was : slice_get old place ≡ Some before
  pub same : before.id ≡ client.id
  pub so : IsSo before

-- each has its place still: whoever's answer begins with `ok` was there before, and is as it was then, or this is why it is told so now
abbrev pub TellsOk : {T : Type 0} → List (Guest T) → List (Guest T) → (Guest T → Guest T → Type 0) → Type 0
TellsOk old new IsWhy = (ok : HasOk new) → WasThere old ok.place ok.client (λ before. (ok.client ≡ before) ⊎ IsWhy before ok.client)

-- what is left of an answer; or, where that goes on, more of it
abbrev pub IsSameAnswer : GuestStage → GuestStage → Type 0
IsSameAnswer (stages.Answering left) (stages.Answering rest) = (n : ℕ) × (rest ≡ drop n left)
IsSameAnswer (stages.Following left) (stages.Following more) = Unit {0}
IsSameAnswer old new = ⊥

-- some leave, others come, and each goes on: whoever's answer begins with `ok` was there before, and was given that answer then, or this is
-- why it is told so now
abbrev pub TellsOkAmid : {T : Type 0} → List (Guest T) → List (Guest T) → (Guest T → Guest T → Type 0) → Type 0
TellsOkAmid old new IsWhy = (ok : HasOk new) → (place : ℕ) × WasThere old place ok.client (λ before. IsSameAnswer before.stage ok.client.stage ⊎ IsWhy before ok.client)

-- ---- what is said so that is no answer to a change

-- this is the request of a client, of which something may have come by now
abbrev pub HasSent : GuestStage → List ℕ → Type 0
HasSent (stages.Reading bytes) request = (more : List ℕ) × (request ≡ bytes ++ more)
HasSent (stages.Asked bytes) request = request ≡ bytes
HasSent stages.Waiting request = ⊥
HasSent (stages.Answering left) request = ⊥
HasSent (stages.Following left) request = ⊥
HasSent stages.Over request = ⊥

-- it wants to be shown a page, and that is shown
pub record IsShown {T : Type 0} (agent : Agent) (now : Reading) (before client : Guest T) : Type 0 where
  pub request : List ℕ
  pub sent : HasSent before.stage request
  pub page : Page
  pub wants : ClientWants (now.wall / 1000) request (wanted.Show page)
  pub around : Around
  pub text : List ℕ
  pub shown : IsShownText agent around page text
  pub told : client.stage ≡ stages.Answering text

-- ---- what is kept

-- the bytes of a journal's file have this record
abbrev pub HasRecord : List ℕ → List ℕ → Type 0
HasRecord line bytes = (lines : List (List ℕ)) × (StandsFor bytes lines × Contains lines line)

-- the record of a change is among those of the journal, and on the disk: whatever a crash leaves then has it
pub record IsOnDisk {D : Type 0} (known : Bool) (seen : D → DiskState) (name : List ℕ) (w : ChangeKind) (k : Kept D) : Type 0 where
  pub held : Contains (lines_in (store_in k)) (line_for_change (book_in k).file name w)
  pub left : IsTrue known → (c : Image) → (seen k.disk).may_leave c → HasRecord (line_for_change (book_in k).file name w) (bytes_of_file (c (path_of_store (store_in k))))

-- FILE has all that is kept: it is on the disk with this text, which is read as those rows, and is what was read of it last. Its copy has it
-- too, and the journal has no record
pub record FileHasAll {D : Type 0} (known : Bool) (seen : D → DiskState) (k : Kept D) : Type 0 where
  pub text : List ℕ
  pub served : Served
  pub reads : read_served text ≡ Ok served
  pub lists : rows_of_served served ≡ (book_in k).rows
  pub is_read : (book_in k).file ≡ file_of text served
  pub emptied : records_in (lines_in (store_in k)) ≡ []
  pub mode : ℕ
  pub there : IsTrue known → FileIsThere k.places.file (record { mode = mode; bytes = text }) (seen k.disk)
  pub copied : IsTrue known → FileIsThere k.places.copy (copy_with text) (seen k.disk)
  pub whole : IsTrue known → JournalIsWhole (journal_of (store_in k)) (seen k.disk)

-- FILE says all that is kept already: it has the bytes that were read of it last, by their fingerprint, and so has a text that says that
pub record FileSaysAll {D : Type 0} (known : Bool) (seen : D → DiskState) (k : Kept D) : Type 0 where
  pub bytes : List ℕ
  pub stand : AreBytesOf known seen k bytes
  pub same : fingerprint bytes ≡ (book_in k).file.mark
  pub says : SaysAlready (book_in k)

-- what is served is the rows of the text that FILE has, with every change of the journal
pub record IsReread {D : Type 0} (known : Bool) (seen : D → DiskState) (k : Kept D) : Type 0 where
  pub bytes : List ℕ
  pub stand : AreBytesOf known seen k bytes
  pub notes : List JournalNote
  pub book : IsBookIf (Some bytes) (records_in (lines_in (store_in k))) (book_in k).secrets (book_in k) notes

-- what a client has asked for is done: the record of a change is on the disk; FILE has all that is kept, or has said it before; or it is read
-- anew. None that follows the log is told so by this
abbrev pub IsKept : {D : Type 0} → Bool → (D → DiskState) → ClientOrder → Kept D → Type 0
IsKept known seen (asked.Need name need) k = IsOnDisk known seen name (what.Need need) k
IsKept known seen (asked.Replace name credential) k = IsOnDisk known seen name (what.Replace credential) k
IsKept known seen (asked.Add table) k = (most : Option ℕ) × ((row : Row) × ((row_of_table most table ≡ Ok row) × IsOnDisk known seen row.name (what.Add row) k))
IsKept known seen (asked.Drop name) k = IsOnDisk known seen name what.Drop k
IsKept known seen asked.Settle k = FileHasAll known seen k ⊎ FileSaysAll known seen k
IsKept known seen asked.Reload k = IsReread known seen k
IsKept known seen (asked.Follow alerts) k = ⊥

-- where nothing keeps changes, or does not yet, nothing is done but for a need
abbrev pub IsDoneUnkept : ClientOrder → Type 0
IsDoneUnkept (asked.Need name need) = Unit {0}
IsDoneUnkept (asked.Replace name credential) = ⊥
IsDoneUnkept (asked.Add table) = ⊥
IsDoneUnkept (asked.Drop name) = ⊥
IsDoneUnkept asked.Settle = ⊥
IsDoneUnkept asked.Reload = ⊥
IsDoneUnkept (asked.Follow alerts) = ⊥

abbrev pub IsDone : {D I L F : Type 0} → Bool → (D → DiskState) → ClientOrder → Option (Late D I L F) → Type 0
IsDone known seen a None = IsDoneUnkept a
IsDone known seen a (Some (lates.Open l)) = IsKept known seen a l.state
IsDone known seen a (Some (lates.NotYet s)) = IsDoneUnkept a

-- ---- in a run

-- nothing waits to be settled, and no change for the broker's word
abbrev pub OwesNothing : {S T D K E : Type 0} → House S T D K E → Type 0
OwesNothing h = (h.given ≡ None) × (h.awaited ≡ None)

module _ {S T D K E : Type 0} where
  -- at this call it is the turn of the client of that number, which asks for this
  abbrev pub Asks : NeighbourCall → House S T D K E → ℕ → ClientOrder → Type 0
  Asks (Hear agent thing) h id a = ⊥
  Asks (GoOn agent now is_busy) h id a = ⊥
  Asks (Give agent now change) h id a = (after : Option (Control T D)) × (ClientsAsk now (Ok (Some a)) h.control after × (asking_in after ≡ Some id))
  Asks (Settle agent is_made) h id a = ⊥
  Asks (Rest now rest) h id a = ⊥

-- of neighbours to which each call does this, among which there is a house, and of what is done where it is asked for
module _ {N S T D K E : Type 0} (does : NeighbourCall → N → N → Type 0) (house : N → House S T D K E) (Done : ClientOrder → Option K → Type 0) where
  -- whoever is told `ok`: while they go on, it is a page that is shown; where a change is asked for, a client follows the log from now on that
  -- has asked for that; and where something is settled, the client has asked for this before, and it is done. Else nobody is
  abbrev pub TellsTruly : (ℕ → ClientOrder → Type 0) → NeighbourCall → House S T D K E → House S T D K E → Type 0
  TellsTruly has (Hear agent thing) old new = TellsOk (guests_in old.control) (guests_in new.control) (λ before client. ⊥)
  TellsTruly has (GoOn agent now is_busy) old new = TellsOkAmid (guests_in old.control) (guests_in new.control) (λ before client. IsShown agent now before client)
  TellsTruly has (Give agent now change) old new = TellsOk (guests_in old.control) (guests_in new.control)
      (λ before client. ((alerts : Bool) × Asks (Give agent now change) old before.id (asked.Follow alerts)) × (client.stage ≡ stages.Following (codes "ok\n")))
  TellsTruly has (Settle agent is_made) old new = TellsOk (guests_in old.control) (guests_in new.control) (λ before client. (a : ClientOrder) × (has before.id a × Done a new.state))
  TellsTruly has (Rest now rest) old new = TellsOk (guests_in old.control) (guests_in new.control) (λ before client. ⊥)

  -- so it is at each of these calls, after those at which clients have asked for this
  abbrev pub AllTellTruly : (ℕ → ClientOrder → Type 0) → (calls : List NeighbourCall) (old new : N) → AllCalled does calls old new → Type 0
  AllTellTruly has [] old new run = Unit {0}
  AllTellTruly has (call ∷ calls) old new run = TellsTruly has call (house old) (house run.0) × AllTellTruly (λ id a. has id a ⊎ Asks call (house old) id a) calls run.0 new run.1.1

  -- so it is in each run of turns
  abbrev pub TurnsTellTruly : Type 0
  TurnsTellTruly =
      (port : ℕ) (turns : List ServingTurn) (from to : ServingSide) (first last : N) → OwesNothing (house first) → (run : WithCalls does (AreTurns port from turns to) (calls_of port from turns to) first last) →
      AllTellTruly (λ id a. ⊥) (calls_of port from turns to run.is) first last run.called

-- these may be a house whose changes are kept by a ledger, or by one that is to come; an early day before one, or one with a lookout between them
module _ {S T O D I L E : Type 0} (F : Type 0) (given : S → Option (List ℕ)) (failures tries : S → ℕ) (tried : S → Option (List Tried)) (remaining written : T → Option (List ℕ)) (calls : T → Option (List TalkCall)) (log : O → Option (DoorLog T))
    (disk_known : Bool) (seen : D → DiskState) (file_calls : I → Option (List FileCall)) (lanes_seen : L → Lanes) (port : L → ℕ) (known : Bool) (state : E → DiskState) where
  abbrev pub HasIt : Type 0
  HasIt = House S T O (Late D I L F) E

  abbrev pub ToIt : NeighbourCall → HasIt → HasIt → Type 0
  ToIt = ToLedger F given failures tries tried remaining written calls log disk_known seen file_calls lanes_seen port known state

  abbrev pub AcknowledgedLaw : {M : Type 0} → (ℕ → ℕ → M → ℕ) → Type 0
  AcknowledgedLaw {M} due_by =
      TurnsTellTruly ToIt (λ (h : HasIt). h) (IsDone disk_known seen)
      × (TurnsTellTruly (λ (call : NeighbourCall) (old new : EarlyDay HasIt). PassesToOthers ToIt call old new) (λ (d : EarlyDay HasIt). d.others) (IsDone disk_known seen)
      × TurnsTellTruly (λ (call : NeighbourCall) (old new : EarlyDay (Behind HasIt M)). PassesToOthers (λ (c : NeighbourCall) (a b : Behind HasIt M). PassesBehind due_by ToIt c a b) call old new)
      (λ (d : EarlyDay (Behind HasIt M)). d.others.others) (IsDone disk_known seen))
