-- Begun: what a start puts together: the agent, its neighbours and its wait, and all that was said by then.
-- Source: this project's own.
use Rattle.std.specs.Prelude.{◌≡◌, ℕ, ◌/◌, Bool, false, if◌then◌else◌, List, [], Option, Some, None, String, Vec, ◌++◌, codes, decimal, is_some, length, min, option_map, string_bytes}
use Rattle.std.specs.declared.alloc.Global.{Global}
use Rattle.agent_ledger.specs.{declared.asker.Asker.Asker, declared.late.Late.Late, declared.late.Shut.Shut, declared.ledger.Ledger.Ledger}
use Rattle.agent_ledger.specs.declared.late.Late.TheVariants as lates
use Rattle.agent_log.specs.LogDesk.{Desk}
use Rattle.agent_answers.specs.{Controlling.nobody_asks, Onlooking.nobody}
use Rattle.agent_behind.specs.{Lookouts.Ahead, declared.behind.Behind.Behind, declared.behind.Giver.TheVariants.Others}
use Rattle.state_changes.specs.declared.row.Row.{Row}
use Rattle.base_clock.specs.declared.reading.Reading.{Reading}
use Rattle.base_device.specs.declared.place.Place.{Place}
use Rattle.base_device.specs.declared.place.Place.TheVariants as places
use Rattle.base_disk.specs.State.{DiskState}
use Rattle.agent_ends.specs.declared.file.EndsFile.{EndsFile}
use Rattle.agent_house.specs.declared.house.House.{House}
use Rattle.vault_inventory.specs.Inventories.{Inventory}
use Rattle.base_log.specs.declared.form.Form.{Form}
use Rattle.agent_pages.specs.{Standby.begun_standby, declared.board.FileReading.FileReading}
use Rattle.state_secrets.specs.Stamps.{FileCall}
use Rattle.agent_turns.specs.declared.day.EarlyDay.{EarlyDay}
use Rattle.program_commands.specs.declared.job.ServeWords.{ServeWords}
use Rattle.agent_system.specs.{Descriptors.ArePlaces, Saying.BeginsDesk, Saying.SaysBehind, Whole.folder_of, Stalls.WarnsOfDisks, TakingOver.TakesOver}
use Rattle.agent_words.specs.declared.said.SaidLine.{SaidLine}
use Rattle.agent_start.specs.declared.start.Start.{Start}
use Rattle.agent_run.specs.{Doors.DoorCall, Doors.IsDoor, declared.begun.Begun.Begun, declared.begun.Entrances.Entrances, declared.begun.Parts.Parts, declared.begun.Ready.Ready}
use Rattle.agent_run.specs.Waits.{IsResumedFrom, WaitsFor, millis_of}
use Rattle.agent_run.specs.declared.doors.Guests.TheVariants.{Clients, Onlookers}

-- the folder of the file of the ends, where there is one
abbrev pub ends_folder : Option (String Global) → Option (List ℕ)
ends_folder None = None
ends_folder (Some path) = Some (folder_of (string_bytes path))

-- where the broker is reached, in words
abbrev pub place_text : Place → List ℕ
place_text (places.Port port) = codes "127.0.0.1:" ++ decimal port
place_text (places.Path path) = path.now

-- the log begins with what is said of the start, and with a warning of each file for which the loop waits where that lies on a disk
pub record BeginsLog {P : Type 0} (calls : P → Option (List FileCall)) (now : Reading) (form : Form) (place : Place) (count : ℕ) (said : List SaidLine) (path : Option (String Global)) (files : P) (desk : Desk) : Type 0 where
  pub after : P
  pub warned : List SaidLine
  pub warns : WarnsOfDisks calls (ends_folder path) files after said warned
  pub begins : BeginsDesk form (place_text place) count now warned desk

-- the margin of an agent behind another
abbrev pub SaysIfBehind : Reading → Option ℕ → ℕ → Desk → Desk → Type 0
SaysIfBehind now None margin old new = new ≡ old
SaysIfBehind now (Some number) margin old new = SaysBehind now margin old new

-- the log begins, the ends that were kept are taken over, it is reckoned how many guests are let in, and the doors are opened, in this order;
-- the desk is as the last of them left it
pub record IsReady {D E P : Type 0} (calls : P → Option (List FileCall)) (asked : P → Option (List (DoorCall D))) (known : Bool) (seen : E → DiskState) (now : Reading) (served : ServeWords) (behind : Option ℕ) (inventory : Inventory) (said : List SaidLine) (path : Option (String Global)) (disk : E) (doors doors_after : P) (r : Ready D E) : Type 0 where
  pub begun : Desk
  pub told : Desk
  pub placed : Desk
  pub reckoned : Desk
  pub opened : Desk
  pub doors_reckoned : P
  pub doors_opened : P
  pub begins : BeginsLog calls now served.form served.place (length inventory.forest.entries) said path doors begun
  pub takes : TakesOver known seen now inventory path disk r.taken begun told
  pub stands : SaysIfBehind now behind inventory.forest.margin told placed
  pub places : ArePlaces now (min served.width 32) (is_some behind) r.entrances.places placed reckoned
  pub control : IsDoor asked now served.control Clients r.entrances.control doors_reckoned doors_opened reckoned opened
  pub onlookers : IsDoor asked now served.listen Onlookers r.entrances.onlookers doors_opened doors_after opened r.desk

-- a ledger has the credential of a client's change looked up over this lane before it takes it, and those of files by these askers
abbrev pub with_lanes : {D I L : Type 0} → L → Vec (Asker L) Global → Ledger D I L → Ledger D I L
with_lanes lane askers ledger = record ledger { proving = Some (record { lanes = lane; asked = None }); askers = askers }

-- where its folder is opened later they wait for it, no need was given yet, and it is tried in the first turn
pub record IsShutAtFirst {F L : Type 0} (opening : F) (lane : L) (askers : Vec (Asker L) Global) (named : Option (List Row)) (s : Shut F L) : Type 0 where
  pub needs : s.needs.items ≡ []
  pub is : s ≡ record { opening = opening; proving = Some (record { lanes = lane; asked = None }); askers = askers; next = 0; needs = s.needs; read = named }

module _ {D I L F : Type 0} (lane : L) (askers : Vec (Asker L) Global) (named : Option (List Row)) where
  abbrev pub IsShutOf : Option F → Option (Late D I L F) → Type 0
  IsShutOf None state = state ≡ None
  IsShutOf (Some opening) None = ⊥
  IsShutOf (Some opening) (Some (lates.Open l)) = ⊥
  IsShutOf (Some opening) (Some (lates.NotYet s)) = IsShutAtFirst opening lane askers named s

  -- what keeps changes, or comes to later: a ledger, where there is one; else what opens a folder later, where something does
  abbrev pub IsLateOf : Option (Ledger D I L) → Option F → Option (Late D I L F) → Type 0
  IsLateOf (Some ledger) later state = state ≡ Some (lates.Open (with_lanes lane askers ledger))
  IsLateOf None later state = IsShutOf later state

-- the file was read at this moment
abbrev pub read_at : Reading → Bool → FileReading
read_at now is_good = record { is_good = is_good; at = Some (now.wall / 1000); good_at = if is_good then Some (now.wall / 1000) else None }

-- the parts of a house: nobody has come, and nothing was given or said yet
abbrev pub house_of : {S T D K E : Type 0} → Reading → Bool → Option ℕ → Option K → S → Desk → Entrances D → Option (EndsFile E) → House S T D K E
house_of now is_good behind state log desk entrances ends =
    record {
      desk = desk;
      sink = log;
      control = option_map (nobody_asks entrances.places.clients) entrances.control;
      onlookers = option_map (nobody entrances.places.onlookers) entrances.onlookers;
      file = read_at now is_good;
      standby = begun_standby (is_some behind);
      state = state;
      given = None;
      awaited = None;
      next = None;
      ends = ends;
    }

-- who looks ahead for an agent behind another: one of that number, over these lanes, whose scout is not made yet, and who has heard nothing
pub record IsLookout {L : Type 0} (its : ℕ) (lanes : L) (l : Ahead L) : Type 0 where
  pub number : l.number ≡ its
  pub own : l.own ≡ lanes
  pub scout : l.scout ≡ None
  pub heard : l.heard ≡ []

abbrev pub LooksAhead : {L : Type 0} → Option ℕ → L → Option (Ahead L) → Type 0
LooksAhead None lanes lookout = lookout ≡ None
LooksAhead (Some number) lanes None = ⊥
LooksAhead (Some number) lanes (Some l) = IsLookout number lanes l

abbrev pub beside : {N L : Type 0} → N → Option (Ahead L) → Behind N L
beside others lookout = record { others = others; lookout = lookout; giver = Others }

-- which has everything looked up before a day is over by the agent's part of a spread
abbrev pub day_of : {N : Type 0} → ℕ → N → EarlyDay N
day_of part house = record { others = house; earlier = millis_of part; begun = None; is_own = false }

pub record IsBegun {D I L S T O E P G : Type 0} (calls : P → Option (List FileCall)) (asked : P → Option (List (DoorCall O))) (known : Bool) (seen : E → DiskState) (now : Reading) (served : ServeWords) (start : Start (Ledger D I L)) (later : Option G) (parts : Parts S E L) (doors doors_after : P) (width : ℕ) (b : Begun S T O (Late D I L G) E L) : Type 0 where
  pub ready : Ready O E
  pub desk : Desk
  pub lookout : Option (Ahead L)
  pub is_ready : IsReady calls asked known seen now served start.behind start.inventories.served start.said.items parts.ends.path parts.ends.disk doors doors_after ready
  pub agent : IsResumedFrom ready.taken.known.items start.inventories.served width b.serving
  pub waits : WaitsFor ready.taken.known.items width now start.part b.serving.agent start.inventories.again b.wait ready.desk desk
  pub ahead : LooksAhead start.behind parts.ahead lookout
  pub state : Option (Late D I L G)
  pub keeps : IsLateOf parts.lane parts.askers start.inventories.named start.ledger later state
  pub neighbours : b.neighbours ≡ day_of start.part (beside (house_of now start.is_good start.behind state parts.log desk ready.entrances ready.taken.file) lookout)
