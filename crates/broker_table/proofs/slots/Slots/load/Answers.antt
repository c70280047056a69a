-- The slots of an inventory are kept until their soonest end, and the index is that of their credentials.
use Rattle.std.proofs.Common.{subst}
use Rattle.broker_table.specs.Index.{IsIndexed}
use Rattle.broker_table.proofs.Keeping.{loaded_kept}
use Rattle.broker_table.proofs.slots.Slots.load.Goals as goal

pub invariant_of-result : goal.invariant_of-result
invariant_of-result c = (loaded_kept c.args.inventory.now c.in_ok-all.all.items c.in_ok-all.ensures.slots c.in_ok-all.ensures.sound, subst (IsIndexed c.in_ok-index.index) c.deref.ensures.value c.in_ok-index.ensures)
