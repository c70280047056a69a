-- The note that is read is that of the entry.
use Rattle.std.proofs.Common.{◌∙◌, ◌<◌, List, ap, arith, get_or, length, sym}
use Rattle.std.proofs.lemmas.List.{get_or_read}
use Rattle.vault_inventory.specs.{Served.no_note, Served.note_at, declared.note.EntryNote.EntryNote}
use Rattle.vault_lint.specs.Limits.{is_told}
use Rattle.vault_lint.proofs.judging.is_told.Goals as goal

pub returns : goal.returns
unfolding is_told note_at
returns c =
    let i = c.args.index in
    let notes = c.notes-notes.result.now in
    let first = c.index-notes-at.result in
    let size = ap (λ (ns : List EntryNote). length ns) c.notes-notes.ensures.value in
    let within : i < length notes = omega (arith, c.requires, c.args.subject.now.noted, size) in
    ap (λ (n : EntryNote). n.is_told) (sym c.index-notes-at.is ∙ get_or_read notes i first within c.index-notes-at.is no_note)
    ∙ ap (λ (ns : List EntryNote). (get_or ns i no_note).is_told) c.notes-notes.ensures.value
