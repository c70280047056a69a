-- It is served as it is written.
use Rattle.std.proofs.Common.{◌≡◌, ◌∙◌, List, true, subst, sym}
use Rattle.vault_inventory.specs.declared.note.EntryNote.{EntryNote}
use Rattle.agent_words.specs.Reading.{is_as_written}
use Rattle.agent_words.proofs.Read.{served_plain}
use Rattle.agent_words.proofs.reading.read_to_serve.Goals as goal

pub returns-then-is_as_written-clause-served : goal.returns-then-is_as_written-clause-served
returns-then-is_as_written-clause-served g c =
    let plain = subst (λ (notes : List EntryNote). is_as_written c.args.demands notes ≡ true) c.notes.ensures.value (sym c.is_as_written.ensures ∙ c.if-is_as_written.true) in
    served_plain c.args.demands (g.I.Inputs.bytes_at c.args.inputs.now) c.args.folder.now c.args.bytes.now c.in_ok-served.served c.in_ok-served_for_good.field-0
    c.in_ok-served.ensures (sym c.in_default.ensures) plain c.in_ok-served_for_good.ensures
