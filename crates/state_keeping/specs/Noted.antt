-- Noted: the lines about changes of a journal that were not made again.
-- Source: this project's own.
use Rattle.std.specs.Prelude.{ℕ, List, [], ◌∷◌, Option, Some, None, slice_get}
use Rattle.std.specs.List.{flat_map}
use Rattle.state_changes.specs.{declared.change.Record.Record, declared.replaying.JournalNote.JournalNote, declared.replaying.NotMadeReason.NotMadeReason}
use Rattle.state_changes.specs.declared.change.Record.TheVariants.{Made, Settling}
use Rattle.state_notes.specs.Lines.{note_line}

-- the line about one, where its record is a change
abbrev pub line_about : ℕ → NotMadeReason → Option Record → List (List ℕ)
line_about margin why None = []
line_about margin why (Some (Made c)) = note_line margin c why ∷ []
line_about margin why (Some (Settling mark)) = []

abbrev pub lines_in_note : ℕ → List Record → JournalNote → List (List ℕ)
lines_in_note margin records note = line_about margin note.why (slice_get records note.at)

unfoldable pub note_lines : ℕ → List Record → List JournalNote → List (List ℕ)
note_lines margin records notes = flat_map (lines_in_note margin records) notes
