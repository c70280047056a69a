-- One slot more is entered under a credential that is new, and after the last all slots are.
use Rattle.std.proofs.Common.{◌≡◌, ap, arith, length, subst, sym}
use Rattle.broker_table.specs.{declared.slot.Slot.Slot, Index.IsFresh, Index.IsIndexOf}
use Rattle.broker_rule.specs.declared.row.BrokerRow.{BrokerRow}
use Rattle.broker_table.proofs.Indexed.{fresh_next}
use Rattle.broker_table.proofs.index.index_of.Goals as goal

pub loop-place-init : goal.loop-place-init
loop-place-init c = c.new-index.ensures c.args.slots.now

pub loop-place-preserved : goal.loop-place-preserved
loop-place-preserved c =
    let slots = c.args.slots.now in
    let n = c.loop-place.place in
    let same = ap (λ (s : Slot). s.row) (sym c.slot_in.ensures) in
    c.in_ok-add.ensures slots same (subst (λ (r : BrokerRow). IsFresh r slots n) same (fresh_next slots n c.requires.unlike c.loop-place-test.true)) c.loop-place.invariant

pub returns : goal.returns
returns c =
    let whole : c.loop-place.place ≡ length c.args.slots.now = omega arith in
    subst (IsIndexOf c.loop-place.index c.args.slots.now) whole c.loop-place.invariant
