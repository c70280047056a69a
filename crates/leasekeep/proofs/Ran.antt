-- Ran: an agent that has ended with exit 0 has run, with the log that it was given. For `run_among` and `run`.
use Rattle.std.proofs.Common.{◌≡◌, ◌∙◌, ℕ, Bool, List, Ok, Err, OnErr, OnOk, Option, Result, subst, sym}
use Rattle.agent_ledger.specs.declared.late.Late.{Late}
use Rattle.vault_asking.specs.Sending.{Lanes}
use Rattle.agent_behind.specs.declared.behind.Behind.{Behind}
use Rattle.base_clock.specs.Seen.{ClockSeen}
use Rattle.base_disk.specs.State.{DiskState}
use Rattle.base_files.specs.Files.{Files}
use Rattle.agent_house.specs.declared.house.House.{House}
use Rattle.program_report.specs.declared.exit.Exit.{Exit}
use Rattle.program_report.specs.declared.exit.Exit.TheVariants as exits
use Rattle.state_secrets.specs.Stamps.{FileCall}
use Rattle.agent_turns.specs.{Neighbours.NeighbourCall, declared.change.AgentChange.AgentChange, declared.day.EarlyDay.EarlyDay}
use Rattle.program_commands.specs.declared.job.ServeWords.{ServeWords}
use Rattle.agent_words.specs.declared.demands.Demands.{Demands}
use Rattle.agent_start.specs.{Alone.IsServedAlone, declared.start.Start.Start}
use Rattle.agent_run.specs.{Doors.DoorCall, Run.HasRun}

pub ran_if : {A E X : Type 0} → (ran : Result A E) (exit : Exit) → OnOk ran X → OnErr ran (exit ≡ exits.Memory) → exit ≡ exits.Done → X
ran_if (Ok a) exit runs wanting done = runs
ran_if (Err e) exit runs wanting done = let both : exits.Memory ≡ exits.Done = sym wanting ∙ done in absurd cc

-- what is served alone, by the words as they stand
pub served_alone : {K : Type 0} (had has : Bool) (known_file known : Files) (given file : List ℕ) (d : Demands) (s : Start K) → had ≡ has → given ≡ file
    → IsServedAlone had known_file known given d s → IsServedAlone has known_file known file d s
served_alone had has known_file known given file d s same named alone =
    subst (λ b. IsServedAlone b known_file known file d s) same (subst (λ f. IsServedAlone had known_file known f d s) named alone)

module _ {D I L S T O E C P F J G : Type 0} (does : NeighbourCall → EarlyDay (Behind (House S T O (Late D I L G) E) L) → EarlyDay (Behind (House S T O (Late D I L G) E) L) → Type 0) (given : EarlyDay (Behind (House S T O (Late D I L G) E) L) → Option (List AgentChange)) (calls : P → Option (List FileCall)) (asked : P → Option (List (DoorCall O))) (known : Bool) (disk_seen : E → DiskState)
    (clock_seen : C → ClockSeen) (seen : L → Lanes) (port width : L → ℕ) (file_bytes : F → Files) (secret_bytes : J → Files) where
  pub has_run_by :
      (served : ServeWords) (log other : S) → log ≡ other → HasRun does given calls asked known disk_seen clock_seen seen port width file_bytes secret_bytes served log → HasRun does given calls asked known disk_seen clock_seen seen port width file_bytes secret_bytes served other
  has_run_by served log other same has = subst (HasRun does given calls asked known disk_seen clock_seen seen port width file_bytes secret_bytes served) same has
