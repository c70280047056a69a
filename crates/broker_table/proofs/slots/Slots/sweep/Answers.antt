-- A sweep changes no credential, so that the index fits the slots that it leaves.
use Rattle.std.proofs.Common.{◌≡◌, List, subst, sym}
use Rattle.broker_table.specs.{declared.slot.Slot.Slot, Index.IsIndexed, Index.credentials_of, Slots.AreKept}
use Rattle.base_device.proofs.Lent.{written_back}
use Rattle.broker_table.proofs.Indexed.{indexed_like, same_length}
use Rattle.broker_table.proofs.slots.Slots.sweep.Goals as goal

pub invariant_of-self : goal.invariant_of-self
invariant_of-self c =
    let slots = c.self.inside.all.items in
    let now = c.sweep.new.slots in
    let credentials : credentials_of now ≡ credentials_of slots = subst (λ (us : List Slot). credentials_of now ≡ credentials_of us) c.deref_mut.ensures.value c.sweep.ensures.credentials in
    let whole = written_back c.self.inside.all.len now slots (same_length slots now credentials) c.self.inside.all.ok.0 in
    (subst (AreKept c.sweep.new.soonest) (sym whole) c.sweep.ensures.kept, subst (IsIndexed c.self.inside.index) (sym whole) (indexed_like c.self.inside.index slots now credentials c.self.invariant.1))
