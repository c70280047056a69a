-- Stalls: what is said at a start of files for which the loop waits.
-- Source: this project's own; docs/commands/serve.md, "The log" and "Ends over a restart".
use Rattle.std.specs.Prelude.{◌≡◌, ℕ, not, ◌&&◌, if◌then◌else◌, List, [], ◌∷◌, ◌++◌, Option, Some, None, Result, Ok, Err, codes}
use Rattle.base_device.specs.declared.fault.InputFault.{InputFault}
use Rattle.base_log.specs.declared.level.Level.TheVariants.{Warning}
use Rattle.state_secrets.specs.declared.secret_files.FileStamp.{FileStamp}
use Rattle.state_secrets.specs.Stamps.{FileCall, Made, Opened, Stamped}
use Rattle.agent_system.specs.{Mounts.is_in_memory, declared.stalls.TheConstants.MOST_MOUNTS}
use Rattle.agent_words.specs.{declared.said.About.About, declared.said.SaidLine.SaidLine}
use Rattle.agent_words.specs.declared.said.About.TheVariants as abouts

abbrev pub warning_of : About → List ℕ → List SaidLine
warning_of about text = record { level = Warning; about = about; text = text } ∷ []

-- of a log that is a regular file, unless that lies in memory
abbrev pub log_warning : List ℕ → Option FileStamp → List SaidLine
log_warning mounts None = []
log_warning mounts (Some stamp) =
    if stamp.is_regular && not (is_in_memory stamp.device mounts) then warning_of abouts.Log (codes "is a regular file: nothing is renewed while its disk stalls") else []

-- of ends that are kept in this folder, unless that lies in memory
abbrev pub ends_warning : List ℕ → Option FileStamp → List SaidLine
ends_warning mounts None = []
ends_warning mounts (Some stamp) =
    if not (is_in_memory stamp.device mounts) then warning_of abouts.Ends (codes "are kept on a disk: nothing is renewed while it stalls") else []

module _ {I : Type 0} (calls : I → Option (List FileCall)) where
  abbrev pub WarnsOfEnds : List ℕ → Option (List ℕ) → I → I → List SaidLine → List SaidLine → Type 0
  WarnsOfEnds mounts None before after old new = (after ≡ before) × (new ≡ old)
  WarnsOfEnds mounts (Some folder) before after old new =
      (stamp : Option FileStamp) × (Made (Stamped folder stamp) (calls before) (calls after) × (new ≡ old ++ ends_warning mounts stamp))

  -- nothing is said where the system does not tell its mounts
  abbrev pub WarnsBy : Result (List ℕ) InputFault → Option (List ℕ) → I → I → List SaidLine → List SaidLine → Type 0
  WarnsBy (Err fault) ends before after old new = (after ≡ before) × (new ≡ old)
  WarnsBy (Ok mounts) ends before after old new =
      (stamp : Option FileStamp) × ((mid : I) × (Made (Stamped (codes "/proc/self/fd/1") stamp) (calls before) (calls mid)
      × WarnsOfEnds mounts ends mid after (old ++ log_warning mounts stamp) new))

  -- the system is asked for its mounts, and what standard output and the folder of the ends are
  pub record WarnsOfDisks (ends : Option (List ℕ)) (before after : I) (old new : List SaidLine) : Type 0 where
    pub mounts : Result (List ℕ) InputFault
    pub mid : I
    pub opened : Made (Opened (codes "/proc/self/mountinfo") MOST_MOUNTS mounts) (calls before) (calls mid)
    pub warns : WarnsBy mounts ends mid after old new
