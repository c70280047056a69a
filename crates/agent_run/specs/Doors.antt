-- Doors: where guests come in. A socket that cannot be had stops nothing.
-- Source: this project's own; docs/troubleshooting.md, "Lines of the log".
use Rattle.std.specs.Prelude.{◌≡◌, ℕ, List, [], ◌∷◌, ◌++◌, Option, Some, None, IfSome, codes}
use Rattle.agent_log.specs.LogDesk.{Desk, HearsNoSocket}
use Rattle.base_clients.specs.declared.entrance.Entrance.{Entrance}
use Rattle.base_clock.specs.declared.reading.Reading.{Reading}
use Rattle.program_commands.specs.declared.job.Socket.{Socket}
use Rattle.agent_run.specs.declared.doors.Guests.{Guests}
use Rattle.agent_run.specs.declared.doors.Guests.TheVariants as guests

-- the number under which the wait tells of their door: after those of the lanes to the broker
abbrev pub number_of : Guests → ℕ
number_of guests.Clients = 32
number_of guests.Onlookers = 33

-- what it costs where their socket cannot be had
abbrev pub cost_without : Guests → List ℕ
cost_without guests.Clients = codes "no command can be given"
cost_without guests.Onlookers = codes "nobody can look on"

pub record SaysNoDoor (now : Reading) (socket : List ℕ) (who : Guests) (old new : Desk) : Type 0 where
  pub why : List ℕ
  pub hears : HearsNoSocket now socket why (cost_without who) old new

abbrev pub SaysIfShut : {D : Type 0} → Reading → List ℕ → Guests → Option D → Desk → Desk → Type 0
SaysIfShut now socket who (Some door) old new = new ≡ old
SaysIfShut now socket who None old new = SaysNoDoor now socket who old new

-- a door was asked for at this entrance, of which the wait is to tell under this number; and the door, where it could be had
pub record DoorCall (D : Type 0) : Type 0 where
  pub entrance : Entrance
  pub number : ℕ
  pub door : Option D

-- one door was asked for, and this one: what is known of the calls now was known before, and this is one more
abbrev pub AsksDoor : {D : Type 0} → DoorCall D → Option (List (DoorCall D)) → Option (List (DoorCall D)) → Type 0
AsksDoor {D} call old new = IfSome new (λ calls. (before : List (DoorCall D)) × ((old ≡ Some before) × (calls ≡ before ++ call ∷ [])))

module _ {D P : Type 0} (asked : P → Option (List (DoorCall D))) where
  -- the one at the entrance of a socket
  abbrev pub AsksAt : Socket → Guests → Option D → P → P → Type 0
  AsksAt socket who door before after = AsksDoor (record { entrance = socket.entrance; number = number_of who; door = door }) (asked before) (asked after)

  -- where a socket is asked for there is the door at its entrance, if it can be had; if it cannot, it is said why, and what that costs
  abbrev pub IsDoor : Reading → Option Socket → Guests → Option D → P → P → Desk → Desk → Type 0
  IsDoor now None who door before after old new = (door ≡ None) × ((after ≡ before) × (new ≡ old))
  IsDoor now (Some socket) who door before after old new = AsksAt socket who door before after × SaysIfShut now socket.word.now who door old new
