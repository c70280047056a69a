-- The slots so far are those of the entries before the index, in their order.
use Rattle.std.proofs.Common.{◌≡◌, map}
use Rattle.std.specs.List.{range_with_len}
use Rattle.broker_table.specs.Slots.{slot_of}
use Rattle.broker_table.proofs.slot.slots_of.Given as goal

abbrev pub invariant-loop-index : goal.invariant-loop-index
invariant-loop-index l = l.slots.items ≡ map (slot_of l.inventory) (range_with_len 0 l.index)
