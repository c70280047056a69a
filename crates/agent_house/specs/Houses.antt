-- Houses: what each neighbour is given of a turn, and which client is told what. What clients ask for is carried out by specs/Commands.
-- Source: this project's own; what one onlooker and one client is given is agent_answers's.
use Rattle.std.specs.Prelude.{◌≡◌, ℕ, ◌+◌, ◌/◌, ◌≤◌, Bool, true, false, ◌&&◌, ◌||◌, List, [], Option, Some, None, Result, Ok, is_ok, is_some}
use Rattle.std.specs.declared.alloc.AllocError.{AllocError}
use Rattle.agent_standing.specs.Agent.{Agent}
use Rattle.agent_answers.specs.{Onlooking.OnlookingGoesOn, declared.asked.ClientOrder.ClientOrder, declared.control.Control.Control, declared.onlookers.Onlookers.Onlookers, declared.went.Went.Went}
use Rattle.agent_answers.specs.Controlling.{AnswersAside, AnswersAsked, ControlGoesOn, GivesAsked}
use Rattle.state_changes.specs.declared.row.Row.{Row}
use Rattle.base_clients.specs.{Doors.DoorLog, declared.talk.TalkCall.TalkCall}
use Rattle.base_clock.specs.declared.reading.Reading.{Reading}
use Rattle.base_device.specs.declared.tried.Tried.{Tried}
use Rattle.base_log.specs.{Waiting.Waiting, declared.writing.TheConstants.MOST_TRIES}
use Rattle.agent_pages.specs.{declared.board.FileReading.FileReading, declared.board.Surroundings.Surroundings, declared.standby.Standby.Standby, declared.state_folder.StateFolder.StateFolder, Naming.Around, Naming.beside}
use Rattle.agent_turns.specs.declared.change.AgentChange.{AgentChange}
use Rattle.watch_machine.specs.declared.outlook.Next.{Next}
use Rattle.agent_log.specs.{Feeding.FollowersGoOn, Lines.Line, Rooms.Rooms}
use Rattle.agent_log.specs.LogDesk.{Desk, HearsIf, HearsWant, ReaderIsGiven}
use Rattle.agent_words.specs.{Outcomes.Outcome, Moments.second_of, Telling.IsRefusalFor, Telling.IsReplyTo}
use Rattle.agent_house.specs.{Nexts.next_wake_of, Retries.folder_in, declared.house.House.House}
use Rattle.agent_house.specs.declared.given.Given.TheVariants as givens

-- ---- what the agent does not know of itself

-- what was said last of the next time of an entry, how the inventory's file was last read, whether a state folder keeps changes, how it stands
-- to others, how many lines of the log were dropped, and the wall's clock, in milliseconds
abbrev pub around_of : Option (Option Next) → FileReading → StateFolder → Standby → ℕ → ℕ → Surroundings
around_of next file folder standby dropped wall =
    record { wall = wall / 1000; next_wake = next_wake_of next; file = file; state_folder = folder; standby = standby; dropped_lines = dropped; dropped_alerts = 0 }

-- the entries that the inventory names: those after every change, or, where none is kept yet, those that the start has read
abbrev pub named_in : {K : Type 0} → (K → List Row) → Option K → List Row
named_in rows (Some state) = rows state
named_in rows None = []

-- ---- a turn

-- where there is no socket nothing is done
abbrev pub idle : Went
idle = record { is_busy = false; is_enough = true }

module _ {T D : Type 0} (remaining written : T → Option (List ℕ)) (calls : T → Option (List TalkCall)) (log : D → Option (DoorLog T)) (agent : Agent) (around : Around) (now : Reading) (went : Went) where
  abbrev pub OnlookersGoOn : Option (Onlookers T D) → Option (Onlookers T D) → Type 0
  OnlookersGoOn None new = (went ≡ idle) × (new ≡ None)
  OnlookersGoOn (Some old) None = ⊥
  OnlookersGoOn (Some old) (Some new) = OnlookingGoesOn remaining written calls log agent around now.elapsed went old new

  abbrev pub ClientsGoOn : Option (Control T D) → Option (Control T D) → Type 0
  ClientsGoOn None new = (went ≡ idle) × (new ≡ None)
  ClientsGoOn (Some old) None = ⊥
  ClientsGoOn (Some old) (Some new) = ControlGoesOn remaining written calls log agent around now went old new

-- the log's reader is given of what waits, and then each of those who follow the log; then the onlookers and the clients go on, each for
-- itself, with the agent as it is and what is around it then; and where memory was wanting for one of them, that is said. Nothing else
-- changes
pub record Attends {S T D K E : Type 0} (given : S → Option (List ℕ)) (failures tries : S → ℕ) (tried : S → Option (List Tried)) (remaining written : T → Option (List ℕ)) (calls : T → Option (List TalkCall)) (log : D → Option (DoorLog T))
    (rows : K → List Row) (keeps : K → Bool) (agent : Agent) (now : Reading) (goes_on : Bool) (old new : House S T D K E) : Type 0 where
  pub room : Waiting
  pub rooms : Rooms
  pub fed : Option (Control T D)
  pub is_more : Bool
  pub shown : Went
  pub answered : Went
  pub gives : ReaderIsGiven old.desk.form (second_of now.wall) old.desk.room.log room (given old.sink) (given new.sink) (failures old.sink) (failures new.sink) (tried old.sink) (tried new.sink) is_more
  pub few : tries new.sink ≤ tries old.sink + MOST_TRIES
  pub follow : FollowersGoOn old.desk.form (second_of now.wall) (record old.desk.room { log = room }) rooms old.control fed
  pub around : Around
  pub around_is : around ≡ beside (around_of old.next old.file (folder_in keeps old.state) old.standby rooms.log.dropped now.wall) (named_in rows old.state)
  pub onlookers : OnlookersGoOn remaining written calls log agent around now shown old.onlookers new.onlookers
  pub clients : ClientsGoOn remaining written calls log agent around now answered fed new.control
  pub desk : HearsWant agent (shown.is_enough && answered.is_enough) (record old.desk { room = rooms }) new.desk
  pub rest : new ≡ record old { desk = new.desk; sink = new.sink; control = new.control; onlookers = new.onlookers }
  pub more : goes_on ≡ (is_more || (shown.is_busy || answered.is_busy))

-- ---- what clients ask for

-- the changes that were given so far: none where nobody asks for any and nobody keeps any, and else those are not known
abbrev pub given_where : Bool → Option (List AgentChange)
given_where true = None
given_where false = Some []

abbrev pub changes_given : {C K : Type 0} → Option C → Option K → Option (List AgentChange)
changes_given control state = given_where (is_some control || is_some state)

abbrev pub ClientsAsk : {T D : Type 0} → Reading → Result (Option ClientOrder) AllocError → Option (Control T D) → Option (Control T D) → Type 0
ClientsAsk now result None new = (result ≡ Ok None) × (new ≡ None)
ClientsAsk now result (Some old) None = ⊥
ClientsAsk now result (Some old) (Some new) = GivesAsked now old result new

abbrev pub ClientIsAnswered : {T D : Type 0} → List ℕ → ℕ → Option (Control T D) → Option (Control T D) → Type 0
ClientIsAnswered answer now None new = new ≡ None
ClientIsAnswered answer now (Some old) None = ⊥
ClientIsAnswered answer now (Some old) (Some new) = AnswersAsked answer now old new

abbrev pub bytes_sent : Option (List ℕ) → List ℕ
bytes_sent None = []
bytes_sent (Some text) = text

-- the client is sent this, and its connection is closed after it; where memory was wanting for it, that is said
pub record ClientIsSent {S T D K E : Type 0} (agent : Agent) (sent : Option (List ℕ)) (now : ℕ) (old new : House S T D K E) : Type 0 where
  pub client : ClientIsAnswered (bytes_sent sent) now old.control new.control
  pub desk : HearsWant agent (is_some sent) old.desk new.desk
  pub rest : new ≡ record old { desk = new.desk; control = new.control }

-- ---- a client that was set aside

-- its number, where its request was taken last; others may ask then
abbrev pub ClientIsAside : {T D : Type 0} → Option ℕ → Option (Control T D) → Option (Control T D) → Type 0
ClientIsAside number None new = (number ≡ None) × (new ≡ None)
ClientIsAside number (Some old) None = ⊥
ClientIsAside number (Some old) (Some new) = (number ≡ old.asking) × (new ≡ record old { asking = None })

abbrev pub IsAnsweredAs : {T D : Type 0} → ℕ → List ℕ → ℕ → Option (Control T D) → Option (Control T D) → Type 0
IsAnsweredAs number answer now None new = new ≡ None
IsAnsweredAs number answer now (Some old) None = ⊥
IsAnsweredAs number answer now (Some old) (Some new) = AnswersAside number answer now old new

abbrev pub IsAnsweredAside : {T D : Type 0} → Option ℕ → List ℕ → ℕ → Option (Control T D) → Option (Control T D) → Type 0
IsAnsweredAside None answer now old new = new ≡ old
IsAnsweredAside (Some number) answer now old new = IsAnsweredAs number answer now old new

-- it is sent this, and its connection is closed after it; where memory was wanting for it, that is said
pub record SendsAside {S T D K E : Type 0} (agent : Agent) (client : Option ℕ) (sent : Option (List ℕ)) (now : ℕ) (old new : House S T D K E) : Type 0 where
  pub answered : IsAnsweredAside client (bytes_sent sent) now old.control new.control
  pub desk : HearsWant agent (is_some sent) old.desk new.desk
  pub rest : new ≡ record old { desk = new.desk; control = new.control }

-- ---- what is to be told

-- the client is to be told what came of what it asked for, once that is settled
pub record WillTell {S T D K E : Type 0} (outcome : Outcome) (now : ℕ) (old new : House S T D K E) : Type 0 where
  pub sent : Option (List ℕ)
  pub reply : IsReplyTo outcome sent
  pub rest : new ≡ record old { given = Some (givens.Answer sent now) }

-- or why it was not, for each of these reasons
pub record WillRefuse {S T D K E : Type 0} (whys : List (List ℕ)) (now : ℕ) (old new : House S T D K E) : Type 0 where
  pub sent : Option (List ℕ)
  pub reply : IsRefusalFor whys sent
  pub rest : new ≡ record old { given = Some (givens.Answer sent now) }

-- where it was done the log says so
pub record Concludes {S T D K E : Type 0} (agent : Agent) (l : Line) (outcome : Outcome) (now : ℕ) (old new : House S T D K E) : Type 0 where
  pub desk : Desk
  pub heard : HearsIf (is_ok outcome) agent l old.desk desk
  pub will : WillTell outcome now (record old { desk = desk }) new
