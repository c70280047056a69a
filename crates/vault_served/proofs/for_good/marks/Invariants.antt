-- The marks so far are those of the notes before the index.
use Rattle.std.proofs.Common.{◌≡◌, take}
use Rattle.vault_served.specs.ForGood.{marks}
use Rattle.vault_served.proofs.for_good.marks.Given as goal

abbrev pub invariant-loop-note : goal.invariant-loop-note
invariant-loop-note l = l.always.items ≡ marks (take l.note-index l.notes)
