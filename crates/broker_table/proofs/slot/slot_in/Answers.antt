-- What is read at a place is the slot there.
use Rattle.broker_table.proofs.Listed.{slot_read}
use Rattle.broker_table.proofs.slot.slot_in.Goals as goal

pub returns : goal.returns
returns c = slot_read c.args.slots.now c.args.place c.index-slots-place.result c.requires c.index-slots-place.is
