-- SettingAside: what cannot be read in a journal, and the file in which it is kept.
-- Source: this project's own; docs/running.md, "What holds after a crash".
use Rattle.std.specs.Prelude.{◌≡◌, ◌≢◌, ◌⊎◌, ◌==◌, ℕ, List, [], ◌∷◌, ◌++◌, Bool, true, Option, if◌then◌else◌, length, codes, decimal}
use Rattle.std.specs.List.{ends_with}
use Rattle.base_disk.specs.State.{DiskState, LeavesAlone}
use Rattle.base_disk.specs.Image.{File, Image, with_file_at}
use Rattle.base_journal.specs.{Journals.FileIsThere, Journals.bytes_of_file, Records.StandsFor}
use Rattle.base_log.specs.declared.level.Level.TheVariants.{Alert}
use Rattle.agent_words.specs.{declared.said.About.TheVariants.Journal, declared.said.SaidLine.SaidLine}

-- ---- what cannot be read

-- what a crash may have left after the records: nothing, or a gate that is closed still and what was being written
abbrev pub is_closed : List ℕ → Bool
is_closed [] = true
is_closed (gate ∷ rest) = gate == 45

-- anything else cannot be read
abbrev pub unread_of : List ℕ → List ℕ
unread_of end = if is_closed end then [] else end

-- it is all that cannot be read in a journal's file
pub record IsUnread (file bytes : List ℕ) : Type 0 where
  pub lines : List (List ℕ)
  pub stands : StandsFor file lines
  pub is : bytes ≡ unread_of stands.end

-- ---- the file aside

-- more after these bytes, unless they end with it already
abbrev pub with_end : List ℕ → List ℕ → List ℕ
with_end more old = if ends_with ◌==◌ old more then old else (old ++ more)

abbrev pub file_with : List ℕ → Option File → File
file_with more old = record { mode = 384; bytes = with_end more (bytes_of_file old) }

-- so many bytes of a journal's file cannot be read, and they are at the end of the file at this path; where there are none, nothing was done
pub record KeepsUnread (file path : List ℕ) (s t : DiskState) (count : ℕ) : Type 0 where
  pub bytes : List ℕ
  pub unread : IsUnread file bytes
  pub count_is : count ≡ length bytes
  pub none : count ≡ 0 → LeavesAlone s t
  pub there : count ≢ 0 → FileIsThere path (file_with bytes (s.seen path)) t

-- nothing is changed; or what cannot be read in a journal's file is at the end of the file at this path
abbrev pub AddsUnread : List ℕ → List ℕ → DiskState → Image → Image → Type 0
AddsUnread file path s old new = (new ≡ old) ⊎ ((bytes : List ℕ) × IsUnread file bytes × (new ≡ with_file_at path (file_with bytes (s.seen path)) old))

-- ---- what is said of it

abbrev pub unread_words : List ℕ → ℕ → List ℕ
unread_words aside count = decimal count ++ (codes " bytes cannot be read: they are kept in " ++ aside)

abbrev pub unread_said : List ℕ → ℕ → List SaidLine
unread_said aside count = if count == 0 then [] else (record { level = Alert; about = Journal; text = unread_words aside count } ∷ [])

-- what cannot be read in the journal at a path is at the end of the file aside, and that is said
pub record SetsAside (journal aside : List ℕ) (s t : DiskState) (old new : List SaidLine) : Type 0 where
  pub count : ℕ
  pub kept : KeepsUnread (bytes_of_file (s.seen journal)) aside s t count
  pub said : new ≡ old ++ unread_said aside count
