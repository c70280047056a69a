-- A slot that is judged changes in nothing but whether it is listed.
use Rattle.std.proofs.Common.{◌≡◌, ◌∙◌, ap, get_or, set, sym}
use Rattle.broker_table.specs.{declared.slot.Slot.Slot, Slots.slot_at}
use Rattle.broker_table.proofs.Listed.{slot_read}
use Rattle.broker_table.proofs.slot.relist.Goals as goal

pub returns : goal.returns
returns c =
    let slots = c.args.slots.now in
    let at = c.args.at in
    let read : get_or slots at c.index-slots-at.result ≡ slot_at slots at = sym c.index-slots-at.is ∙ slot_read slots at c.index-slots-at.result c.requires.within c.index-slots-at.is in
    ap (λ (u : Slot). set slots at (record { row = u.row; over = u.over; listed = c.stands-listed.result })) read
    ∙ ap (λ b. set slots at (record (slot_at slots at) { listed = b })) c.stands-listed.ensures
