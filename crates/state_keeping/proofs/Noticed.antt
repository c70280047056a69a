-- The lines of one note more.
use Rattle.std.proofs.Common.{◌≡◌, ℕ, ◌+◌, ◌<◌, ◌≤◌, List, [], ◌++◌, length, take, get_or, refl, sym, ap, ◌∙◌}
use Rattle.std.proofs.lemmas.List.{flat_map_more, take_all, take_more}
use Rattle.state_changes.specs.{declared.change.Record.Record, declared.replaying.JournalNote.JournalNote}
use Rattle.state_keeping.specs.Noted.{lines_in_note, note_lines}

pub lines_none : (margin : ℕ) (records : List Record) → note_lines margin records [] ≡ []
unfolding note_lines
lines_none margin records = refl

pub lines_more : (margin : ℕ) (records : List Record) (notes : List JournalNote) (i : ℕ) (d : JournalNote) → i < length notes
    → note_lines margin records (take (i + 1) notes) ≡ note_lines margin records (take i notes) ++ lines_in_note margin records (get_or notes i d)
unfolding note_lines
lines_more margin records notes i d h =
    ap (note_lines margin records) (take_more notes i d h) ∙ sym (flat_map_more (lines_in_note margin records) [] (take i notes) (get_or notes i d))

pub lines_all : (margin : ℕ) (records : List Record) (notes : List JournalNote) (i : ℕ) → length notes ≤ i → note_lines margin records (take i notes) ≡ note_lines margin records notes
lines_all margin records notes i past = ap (note_lines margin records) (take_all i notes past)
