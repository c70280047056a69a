-- One slot more is judged, after the one over it, and the soonest end is lowered to its end if it stays listed.
use Rattle.std.proofs.Common.{◌≡◌, ◌∙◌, ◌+◌, ◌-◌, ◌^◌, ap, arith, length, min, subst, sym}
use Rattle.broker_table.specs.Slots.{EndFrom, slot_at, stands}
use Rattle.broker_table.proofs.Keeping.{ends_first, ends_more}
use Rattle.broker_table.proofs.Living.{judged_all, judged_first, judged_length, judged_more, over_within}
use Rattle.broker_table.proofs.slot.sweep_all.Goals as goal

pub loop-at-init : goal.loop-at-init
loop-at-init c = record { judged = judged_first c.args.slots.now c.args.t; ends = ends_first (2 ^ 64 - 1) c.args.slots.now }

pub relist-requires-clause-over : goal.relist-requires-clause-over
relist-requires-clause-over c = over_within c.args.slots.now c.requires c.args.t c.loop-at.at c.loop-at.slots c.loop-at-test.true c.loop-at.invariant.judged

pub loop-at-preserved : goal.loop-at-preserved
loop-at-preserved c =
    let slots = c.loop-at.slots in
    let at = c.loop-at.at in
    let now = c.relist.new.slots in
    let count = judged_length c.args.slots.now c.args.t at slots (omega arith) c.loop-at.invariant.judged in
    record {
      judged = judged_more c.args.slots.now c.requires c.args.t at slots now c.loop-at-test.true c.loop-at.invariant.judged c.relist.ensures;
      ends =
          subst (λ n. EndFrom n (at + 1) now) (sym (c.min-soonest.ensures ∙ ap (min c.loop-at.soonest) c.end_in.ensures))
          (ends_more slots now at c.loop-at.soonest (record (slot_at slots at) { listed = stands slots c.args.t (slot_at slots at) }) (omega arith) c.relist.ensures c.loop-at.invariant.ends);
    }

pub returns-clause-swept : goal.returns-clause-swept
returns-clause-swept c = judged_all c.args.slots.now c.args.t c.loop-at.at c.loop-at.slots (omega arith) c.loop-at.invariant.judged

pub returns-clause-ends : goal.returns-clause-ends
returns-clause-ends c =
    let count = judged_length c.args.slots.now c.args.t c.loop-at.at c.loop-at.slots (omega arith) c.loop-at.invariant.judged in
    let whole : c.loop-at.at ≡ length c.loop-at.slots = omega arith in
    subst (λ n. EndFrom c.loop-at.soonest n c.loop-at.slots) whole c.loop-at.invariant.ends
