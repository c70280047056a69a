-- The lines so far are those of the notes before the current one.
use Rattle.std.proofs.Common.{◌≡◌, take}
use Rattle.state_keeping.specs.Noted.{note_lines}
use Rattle.state_keeping.proofs.noting.note_lines.Given as goal

abbrev pub invariant-loop-note : goal.invariant-loop-note
invariant-loop-note l = l.lines.items ≡ note_lines l.margin l.records (take l.note-index l.notes)
