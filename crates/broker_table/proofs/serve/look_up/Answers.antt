-- The row that a lookup finds names a text, so that the reply can have its body.
use Rattle.std.proofs.Common.{◌∙◌, Ok, ap, subst, sym}
use Rattle.broker_table.specs.{declared.slot.Slot.Slot, Slots.listed_rows, Slots.slot_at}
use Rattle.broker_table.specs.Found.{NamesText, SubjectNamesText, subject_at}
use Rattle.broker_table.proofs.Texts.{subject_names_text}
use Rattle.broker_table.proofs.serve.look_up.Goals as goal

pub body_of-requires : goal.body_of-requires
body_of-requires c =
    let call = c.args.call in
    let slots = c.args.slots.now in
    let all : SubjectNamesText call (subject_at slots c.in_ok-refusal.field-0) =
    subst (SubjectNamesText call) (sym c.in_ok-refusal.ensures.found) (subject_names_text (listed_rows slots) call c.args.request.now) in
    let one : SubjectNamesText call (subject_at slots (Ok c.in-Ok.found)) = subst (λ f. SubjectNamesText call (subject_at slots f)) c.in-Ok.is all in
    subst (λ (s : Slot). NamesText call s.row.credential) (sym (c.slot_in.ensures ∙ ap (λ us. slot_at us c.in-Ok.found.place) c.list.ensures)) one
