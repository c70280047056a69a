-- Having: an agent that has run has, of a start that the words demand. For the program.
use Rattle.std.proofs.Common.{◌≡◌, ℕ, Bool, List, [], None, Option}
use Rattle.std.specs.Prelude.{◌&&◌, is_none, is_some, option_copied, option_map, string_bytes}
use Rattle.agent_ledger.specs.{declared.late.Late.Late, declared.ledger.Ledger.Ledger}
use Rattle.agent_words.specs.declared.demands.Demands.{Demands}
use Rattle.vault_asking.specs.Sending.{Lanes}
use Rattle.agent_behind.specs.declared.behind.Behind.{Behind}
use Rattle.base_clock.specs.Seen.{ClockSeen}
use Rattle.base_disk.specs.State.{DiskState}
use Rattle.base_files.specs.Files.{Files}
use Rattle.agent_house.specs.declared.house.House.{House}
use Rattle.state_secrets.specs.Stamps.{FileCall}
use Rattle.agent_turns.specs.{Neighbours.NeighbourCall, declared.change.AgentChange.AgentChange, declared.day.EarlyDay.EarlyDay}
use Rattle.vault_exchange.specs.Sockets.{port_of}
use Rattle.program_commands.specs.declared.job.ServeWords.{ServeWords}
use Rattle.agent_start.specs.{Alone.IsServedAlone, Starts.IsStart, declared.start.Start.Start}
use Rattle.agent_system.specs.Numbers.{IsNumber}
use Rattle.agent_run.specs.{Doors.DoorCall, declared.begun.Parts.Parts}
use Rattle.agent_run.specs.Run.{HasRun, HasRunSo, IsDemanded, IsRun, demands_of, ends_path, timeout_of, width_of}

pub is_demanded : (served : ServeWords) (number : ℕ) (d : Demands) → IsNumber (option_copied served.name) served.file.now number → d ≡ demands_of served number → IsDemanded served d
is_demanded served number d its is = (number, (its, is))

module _ {D I L S T O E C P F J G : Type 0} (does : NeighbourCall → EarlyDay (Behind (House S T O (Late D I L G) E) L) → EarlyDay (Behind (House S T O (Late D I L G) E) L) → Type 0) (given : EarlyDay (Behind (House S T O (Late D I L G) E) L) → Option (List AgentChange)) (calls : P → Option (List FileCall)) (asked : P → Option (List (DoorCall O))) (known : Bool) (disk_seen : E → DiskState)
    (clock_seen : C → ClockSeen) (seen : L → Lanes) (port width : L → ℕ) (file_bytes : F → Files) (secret_bytes : J → Files) where
  pub has_run :
      (served : ServeWords) (log : S) (demands : Demands) (start : Start (Ledger D I L)) (later : Option G) (files : F) (secrets : J) (parts : Parts S E L) (doors : P) (clock clock_after : C) (lanes lanes_after : L) → IsDemanded served demands → IsStart demands (is_some served.state) start → is_some later ≡ (is_some served.state && is_none start.ledger) →
      (start.ledger ≡ None → IsServedAlone (is_some served.state) (file_bytes files) (secret_bytes secrets) served.file.now demands start) → parts.log ≡ log → option_map string_bytes parts.ends.path ≡ ends_path served.room → (seen lanes).out ≡ [] → port lanes ≡ port_of served.place → (seen lanes).seconds ≡ timeout_of served.patience → width lanes ≡ width_of served.width →
      IsRun does given calls asked known disk_seen clock_seen seen port width served start later parts doors clock lanes clock_after lanes_after → HasRun does given calls asked known disk_seen clock_seen seen port width file_bytes secret_bytes served log
  has_run served log demands start later files secrets parts doors clock clock_after lanes lanes_after demanded is opens alone log_is ends_at free ported seconds wide runs =
      record {
        demands = demands;
        demanded = demanded;
        start = start;
        start_is = is;
        later = later;
        opens = opens;
        files = files;
        secrets = secrets;
        alone = alone;
        parts = parts;
        doors = doors;
        clock = clock;
        lanes = lanes;
        clock_after = clock_after;
        lanes_after = lanes_after;
        log_is = log_is;
        ends_at = ends_at;
        free = free;
        ported = ported;
        seconds = seconds;
        wide = wide;
        runs = runs;
      }

  pub has_run_so : (served : ServeWords) (log : S) → HasRun does given calls asked known disk_seen clock_seen seen port width file_bytes secret_bytes served log → HasRunSo does given calls asked known disk_seen clock_seen seen port width file_bytes secret_bytes served
  has_run_so served log has = (log, has)
