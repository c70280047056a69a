-- An end that is written changes that field of that slot alone.
use Rattle.std.proofs.Common.{◌≡◌, ◌∙◌, ap, get_or, set, sym}
use Rattle.broker_table.specs.{declared.slot.Slot.Slot, Slots.slot_at}
use Rattle.broker_table.proofs.Listed.{slot_read}
use Rattle.broker_table.proofs.slot.write_end.Goals as goal

pub returns : goal.returns
returns c =
    let slots = c.args.slots.now in
    let place = c.args.place in
    let read : get_or slots place c.index-slots-place.result ≡ slot_at slots place =
    sym c.index-slots-place.is ∙ slot_read slots place c.index-slots-place.result c.requires c.index-slots-place.is in
    ap (λ (u : Slot). set slots place (record u { row = record u.row { end = c.args.end } })) read
