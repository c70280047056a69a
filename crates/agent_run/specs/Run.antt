-- Run: an agent from its start to its last turn.
-- Source: this project's own; docs/commands/serve.md.
use Rattle.std.specs.Prelude.{◌≡◌, ℕ, Bool, Option, Some, None, if◌then◌else◌, ◌&&◌, List, [], ◌++◌, codes, is_none, is_some, length, max, min, option_copied, option_map, string_bytes, true}
use Rattle.std.specs.List.{All}
use Rattle.agent_ledger.specs.{Askers.is_free, declared.asker.Asker.Asker, declared.late.Late.Late, declared.ledger.Ledger.Ledger}
use Rattle.agent_words.specs.declared.demands.Demands.{Demands}
use Rattle.vault_asking.specs.Sending.{Lanes}
use Rattle.agent_behind.specs.declared.behind.Behind.{Behind}
use Rattle.base_clock.specs.declared.reading.Reading.{Reading}
use Rattle.base_clock.specs.Seen.{CallIsMade, ClockSeen, read_call}
use Rattle.base_disk.specs.State.{DiskState}
use Rattle.base_files.specs.Files.{Files}
use Rattle.agent_house.specs.declared.house.House.{House}
use Rattle.vault_exchange.specs.Sockets.{port_of}
use Rattle.vault_lanes.specs.Out.{Out}
use Rattle.state_secrets.specs.Stamps.{FileCall}
use Rattle.agent_turns.specs.{Neighbours.NeighbourCall, declared.change.AgentChange.AgentChange, declared.day.EarlyDay.EarlyDay}
use Rattle.plan_spread.specs.Parts.{part_by}
use Rattle.program_commands.specs.{declared.job.EndsRoom.EndsRoom, declared.job.ServeWords.ServeWords}
use Rattle.program_commands.specs.declared.job.EndsRoom.TheVariants as rooms
use Rattle.agent_start.specs.{Alone.IsServedAlone, Starts.IsStart, declared.start.Start.Start}
use Rattle.agent_system.specs.{Numbers.IsNumber, Whole.folder_of}
use Rattle.agent_run.specs.{Begun.IsBegun, Doors.DoorCall, Running.RunsFrom, declared.begun.Begun.Begun, declared.begun.Parts.Parts}

-- the time-out of a request, in seconds, and how many may be out at once, by the words of the command line
abbrev pub timeout_of : ℕ → ℕ
timeout_of patience = min patience 60

abbrev pub width_of : ℕ → ℕ
width_of width = max 1 (min width 32)

-- a lane of which none is taken, with that time-out, over which one request may be out
pub record IsOwnLane {L : Type 0} (out : L → List Out) (seconds width : L → ℕ) (served : ServeWords) (lane : L) : Type 0 where
  pub free : out lane ≡ []
  pub patient : seconds lane ≡ timeout_of served.patience
  pub one : width lane ≡ 1

-- lanes of which none is taken, with that time-out, over which as many may be out as the words say
pub record AreOwnLanes {L : Type 0} (out : L → List Out) (seconds width : L → ℕ) (served : ServeWords) (lanes : L) : Type 0 where
  pub free : out lanes ≡ []
  pub patient : seconds lanes ≡ timeout_of served.patience
  pub wide : width lanes ≡ width_of served.width

-- who looks up what a file holds over such a lane, and nothing yet; and as many of them as requests may be out at once
pub record IsAskerFor {L : Type 0} (out : L → List Out) (seconds width : L → ℕ) (served : ServeWords) (asker : Asker L) : Type 0 where
  pub lane : IsOwnLane out seconds width served asker.proving.lanes
  pub free : is_free asker ≡ true

pub record AreAskersFor {L : Type 0} (out : L → List Out) (seconds width : L → ℕ) (served : ServeWords) (askers : List (Asker L)) : Type 0 where
  pub count : length askers ≡ min served.width 32
  pub each : All (IsAskerFor out seconds width served) askers

-- what is demanded of the inventory by them, for an agent whose name has that number: it wakes up earlier by its part of the spread
abbrev pub spread_of : ℕ → ℕ
spread_of spread = min spread 3600

abbrev pub demands_of : ServeWords → ℕ → Demands
demands_of served number =
    record {
      timeout = timeout_of served.patience;
      names_are_secrets = served.names_are_secrets;
      earlier = part_by number (spread_of served.spread);
      behind = if served.behind then Some number else None;
    }

abbrev pub IsDemanded : ServeWords → Demands → Type 0
IsDemanded served d = (number : ℕ) × (IsNumber (option_copied served.name) served.file.now number × (d ≡ demands_of served number))

-- the path of the file of the ends, where they are kept: in the folder that the words give, or in that of the file of which they do
abbrev pub ends_path : Option EndsRoom → Option (List ℕ)
ends_path None = None
ends_path (Some (rooms.Folder folder)) = Some (folder.now ++ codes "/ends")
ends_path (Some (rooms.Beside file)) = Some (folder_of file.now ++ codes "ends")

-- what the clocks read; 0 where they cannot be read
abbrev pub reading_or_none : Option Reading → Reading
reading_or_none None = record { wall = 0; elapsed = 0 }
reading_or_none (Some r) = r

pub record ReadsFirst {C : Type 0} (clock_seen : C → ClockSeen) (now : Reading) (old new : C) : Type 0 where
  pub reading : Option Reading
  pub is : now ≡ reading_or_none reading
  pub made : CallIsMade (read_call reading) (clock_seen old) (clock_seen new)

-- the clocks are read once; by that an agent is put together of what is served from the start on and of its parts; and it runs from then
-- on, among the neighbours that it was given
pub record IsRun {D I L S T O E C P G : Type 0} (does : NeighbourCall → EarlyDay (Behind (House S T O (Late D I L G) E) L) → EarlyDay (Behind (House S T O (Late D I L G) E) L) → Type 0) (given : EarlyDay (Behind (House S T O (Late D I L G) E) L) → Option (List AgentChange))
    (calls : P → Option (List FileCall)) (asked : P → Option (List (DoorCall O))) (known : Bool) (disk_seen : E → DiskState) (clock_seen : C → ClockSeen) (seen : L → Lanes) (port width : L → ℕ) (served : ServeWords) (start : Start (Ledger D I L)) (later : Option G) (parts : Parts S E L) (doors : P) (clock : C) (lanes : L) (clock_after : C) (lanes_after : L) : Type 0 where
  pub now : Reading
  pub clock_read : C
  pub doors_after : P
  pub begun : Begun S T O (Late D I L G) E L
  pub after : EarlyDay (Behind (House S T O (Late D I L G) E) L)
  pub reads : ReadsFirst clock_seen now clock clock_read
  pub begins : IsBegun calls asked known disk_seen now served start later parts doors doors_after (width lanes) begun
  pub runs : RunsFrom does given clock_seen seen port begun.wait begun.serving lanes clock_read begun.neighbours lanes_after clock_after after

-- an agent was put together of a start that these words demand, and has run, with this log and the file of the ends that the words name, over lanes of which none was taken,
-- with the time-out and the width of the words, whose requests name the port of their place. Without a ledger it serves what FILE says, by its files,
-- and where there is a state folder, that is opened later
pub record HasRun {D I L S T O E C P F J G : Type 0} (does : NeighbourCall → EarlyDay (Behind (House S T O (Late D I L G) E) L) → EarlyDay (Behind (House S T O (Late D I L G) E) L) → Type 0) (given : EarlyDay (Behind (House S T O (Late D I L G) E) L) → Option (List AgentChange))
    (calls : P → Option (List FileCall)) (asked : P → Option (List (DoorCall O))) (known : Bool) (disk_seen : E → DiskState) (clock_seen : C → ClockSeen) (seen : L → Lanes) (port width : L → ℕ) (file_bytes : F → Files) (secret_bytes : J → Files) (served : ServeWords) (log : S) : Type 0 where
  pub demands : Demands
  pub demanded : IsDemanded served demands
  pub start : Start (Ledger D I L)
  pub start_is : IsStart demands (is_some served.state) start
  pub later : Option G
  pub opens : is_some later ≡ (is_some served.state && is_none start.ledger)
  pub files : F
  pub secrets : J
  pub alone : start.ledger ≡ None → IsServedAlone (is_some served.state) (file_bytes files) (secret_bytes secrets) served.file.now demands start
  pub parts : Parts S E L
  pub doors : P
  pub clock : C
  pub lanes : L
  pub clock_after : C
  pub lanes_after : L
  pub log_is : parts.log ≡ log
  pub ends_at : option_map string_bytes parts.ends.path ≡ ends_path served.room
  pub free : (seen lanes).out ≡ []
  pub ported : port lanes ≡ port_of served.place
  pub seconds : (seen lanes).seconds ≡ timeout_of served.patience
  pub wide : width lanes ≡ width_of served.width
  pub runs : IsRun does given calls asked known disk_seen clock_seen seen port width served start later parts doors clock lanes clock_after lanes_after

-- with some log
abbrev pub HasRunSo : {D I L S T O E C P F J G : Type 0} → (NeighbourCall → EarlyDay (Behind (House S T O (Late D I L G) E) L) → EarlyDay (Behind (House S T O (Late D I L G) E) L) → Type 0) → (EarlyDay (Behind (House S T O (Late D I L G) E) L) → Option (List AgentChange)) → (P → Option (List FileCall)) → (P → Option (List (DoorCall O))) → Bool → (E → DiskState) →
    (C → ClockSeen) → (L → Lanes) → (L → ℕ) → (L → ℕ) → (F → Files) → (J → Files) → ServeWords → Type 0
HasRunSo {S} does given calls asked known disk_seen clock_seen seen port width file_bytes secret_bytes served = (log : S) × HasRun does given calls asked known disk_seen clock_seen seen port width file_bytes secret_bytes served log
