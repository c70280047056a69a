-- Recovers: the journal of a state folder at a start.
-- Source: this project's own.
use Rattle.std.specs.Prelude.{◌≡◌, ◌≢◌, ◌⊎◌, ℕ, ◌-◌, List, ◌++◌, Option, Some, None, Bool, false, IsTrue, length}
use Rattle.std.specs.Str.{bytes_eq}
use Rattle.base_disk.specs.{Image.Image, State.DiskState, declared.fault.DiskFault.DiskFault}
use Rattle.base_journal.specs.Records.{StandsFor, lines_taken_out}
use Rattle.base_journal.specs.Journals.{FileIsThere, JournalHolds, bytes_of_file, lines_of_journal, path_of_journal}
use Rattle.state_store.specs.{Compacted.damages, Compacted.undamaged, Records.records_in}
use Rattle.state_keeping.specs.{declared.recovering.Recovered.Recovered, Places.Places}

-- how many of these lines write no record
abbrev pub damage_of : List (List ℕ) → ℕ
damage_of lines = length lines - length (records_in lines)

-- the lines that write no record are out of the journal, unless this says why not
abbrev pub IsAside : List (List ℕ) → Option DiskFault → List (List ℕ) → Type 0
IsAside lines None now = now ≡ undamaged lines
IsAside lines (Some fault) now = now ≡ lines

-- and in the file aside, after what was there
abbrev pub IsPutAside : List (List ℕ) → Places → DiskState → DiskState → Type 0
IsPutAside lines places s t = FileIsThere places.aside (record { mode = 384; bytes = bytes_of_file (s.seen places.aside) ++ lines_taken_out lines (damages lines) }) t

-- all files but the journal and the one aside are seen as before
abbrev pub SeesOthers : Places → DiskState → DiskState → Type 0
SeesOthers places s t = (other : List ℕ) → bytes_eq places.journal other ≡ false → bytes_eq places.aside other ≡ false → t.seen other ≡ s.seen other

-- the journal of a folder whose journal's file stands for these lines, and whose lock is held from then on
pub record IsRecovered (known : Bool) (places : Places) (s t : DiskState) (r : Recovered) : Type 0 where
  pub lines : List (List ℕ)
  pub locked : r.lock ≡ places.lock
  pub free : IsTrue known → s.taken places.lock ≡ false
  pub read : IsTrue known → StandsFor (bytes_of_file (s.seen places.journal)) lines
  pub damaged : r.damaged ≡ damage_of lines
  pub aside : IsAside lines r.aside (lines_of_journal r.journal)
  pub put : IsTrue known → r.aside ≡ None → r.damaged ≢ 0 → IsPutAside lines places s t
  pub path : path_of_journal r.journal ≡ places.journal
  pub held : JournalHolds known r.journal t

-- what a crash leaves meanwhile: the journal as it might have been left before, or one with the same records; and all but that, the file
-- aside and the copy as before
pub record LeftByStart (lines : List (List ℕ)) (places : Places) (s : DiskState) (c : Image) : Type 0 where
  pub was : Image
  pub before : s.may_leave was
  pub journal : (c places.journal ≡ was places.journal)
      ⊎ ((now : List (List ℕ)) × StandsFor (bytes_of_file (c places.journal)) now × (records_in now ≡ records_in lines))
  pub elsewhere : (other : List ℕ) → bytes_eq places.journal other ≡ false → bytes_eq places.aside other ≡ false → bytes_eq places.copy other ≡ false → c other ≡ was other
