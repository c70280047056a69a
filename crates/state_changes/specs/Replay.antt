-- Replay: the inventory that a file and the records of a journal give together. Where the file says something else of a word than
-- it did when a change was made, the file wins.
-- Source: this project's own.
use Rattle.std.specs.Prelude.{ℕ, ◌+◌, Bool, true, false, not, if◌then◌else◌, ◌==◌, List, [], ◌∷◌, ◌++◌, Some, None, Result, Ok, Err, bytes_eq}
use Rattle.vault_inventory.specs.{declared.need.Need.Need, Needs.has_always}
use Rattle.vault_inventory.specs.declared.need.Need.TheVariants.{Until, Always}
use Rattle.state_changes.specs.{declared.change.Change.Change, declared.change.Record.Record, declared.change.ChangeKind.ChangeKind, declared.fault.ChangeFault.ChangeFault, declared.fault.ChangeFault.TheVariants.NoEntry}
use Rattle.state_changes.specs.{declared.replaying.File.File, declared.replaying.JournalNote.JournalNote, declared.row.Row.Row, Changes.is_added, Changes.rows_changed, Rows.named, Said.said}
use Rattle.state_changes.specs.declared.change.Record.TheVariants.{Made, Settling}
use Rattle.state_changes.specs.declared.replaying.NotMadeReason.TheVariants.{FileWins, Refused}
use Rattle.state_changes.specs.declared.change.ChangeKind.TheVariants as what

-- the rows so far, and notes on the changes so far that were not made
pub record ReplayState : Type 0 where
  pub rows : List Row
  pub notes : List JournalNote

abbrev pub replay_begun : File → ReplayState
replay_begun f = record { rows = f.rows; notes = [] }

abbrev pub is_until : ℕ → Need → Bool
is_until t (Until u) = u == t
is_until t Always = false

abbrev pub same_need : Need → Need → Bool
same_need (Until t) b = is_until t b
same_need Always b = has_always b

-- the entry is as the change would make it
abbrev pub holds_of : Row → ChangeKind → Bool
holds_of row (what.Need until) = same_need row.need until
holds_of row (what.Replace credential) = bytes_eq row.credential credential
holds_of row (what.Add added) = true
holds_of row what.Drop = false

-- of an entry that is not there, nothing is left to change, but that it was to be added
unfoldable pub holds : List Row → Change → Bool
holds rows c = elim (named rows c.name) [ None ↦ not (is_added c.what) | Some row ↦ holds_of row c.what ]

-- a change of an entry that is no longer there is about what was dropped
abbrev pub refused_note : ℕ → ChangeFault → List JournalNote
refused_note at NoEntry = []
refused_note at fault = record { at = at; why = Refused fault } ∷ []

abbrev pub made_with : ℕ → ReplayState → Result (List Row) ChangeFault → ReplayState
made_with at s (Ok rows) = record { rows = rows; notes = s.notes }
made_with at s (Err fault) = record { rows = s.rows; notes = s.notes ++ refused_note at fault }

-- the change at a place of the list is made, or a note says why not
unfoldable pub made : ℕ → ℕ → ReplayState → Change → ReplayState
made margin at s c = made_with at s (rows_changed margin s.rows c.name c.what)

-- the file wins; a note says so, unless all is as the change would make it
unfoldable pub overruled : ℕ → ReplayState → Change → ReplayState
overruled at s c = record { rows = s.rows; notes = if holds s.rows c then s.notes else s.notes ++ record { at = at; why = FileWins } ∷ [] }

-- the file says of the word what it said when the change was made
unfoldable pub is_as_then : List Row → Change → Bool
is_as_then file c = bytes_eq (said file c.name c.what) c.was

-- what one record makes of the state: all changes before it are in the file that it is the mark of
abbrev pub replay_step : File → ℕ → ReplayState → Record → ReplayState
replay_step f at s (Settling mark) = if bytes_eq mark f.mark then replay_begun f else s
replay_step f at s (Made c) = if is_as_then f.rows c then made f.margin at s c else overruled at s c

-- the records from a place of the list on
abbrev pub replay_from : File → ℕ → ReplayState → List Record → ReplayState
replay_from f at s [] = s
replay_from f at s (r ∷ rs) = replay_from f (at + 1) (replay_step f at s r) rs

-- the records in order
unfoldable pub replayed : File → List Record → ReplayState
replayed f rs = replay_from f 0 (replay_begun f) rs
