-- A sweep judges all slots, and before the soonest end it has nothing to change.
use Rattle.std.proofs.Common.{◌<◌, ◌∙◌, ap, arith, length, subst, sym}
use Rattle.broker_table.specs.Index.{credentials_of}
use Rattle.broker_table.specs.Slots.{AreKept, EndFrom, listed_rows}
use Rattle.broker_table.proofs.{Indexed.swept_credentials, Keeping.swept_before, Keeping.swept_kept, Living.swept_rows}
use Rattle.broker_table.proofs.slot.sweep.Goals as goal

pub returns-then-soonest-get-clause-rows : goal.returns-then-soonest-get-clause-rows
returns-then-soonest-get-clause-rows c = ap listed_rows c.sweep_all.ensures.swept ∙ swept_rows c.args.slots.now c.args.t

pub returns-then-soonest-get-clause-kept : goal.returns-then-soonest-get-clause-kept
returns-then-soonest-get-clause-kept c =
    let slots = c.args.slots.now in
    let is = c.sweep_all.ensures.swept in
    subst (AreKept c.sweep_all.result) (sym is)
    (swept_kept slots c.requires.sound c.args.t c.sweep_all.result (subst (λ us. EndFrom c.sweep_all.result (length us) us) is c.sweep_all.ensures.ends))

pub returns-then-soonest-get-clause-credentials : goal.returns-then-soonest-get-clause-credentials
returns-then-soonest-get-clause-credentials c = ap credentials_of c.sweep_all.ensures.swept ∙ swept_credentials c.args.t c.args.slots.now

pub returns-else-soonest-get-clause-swept : goal.returns-else-soonest-get-clause-swept
returns-else-soonest-get-clause-swept c =
    let before : c.args.t < c.args.soonest.now = omega (arith, c.if-soonest-get.false, c.get.ensures.value) in
    sym (swept_before c.args.soonest.now c.args.t c.args.slots.now c.requires before)

pub returns-else-soonest-get-clause-rows : goal.returns-else-soonest-get-clause-rows
returns-else-soonest-get-clause-rows c =
    let before : c.args.t < c.args.soonest.now = omega (arith, c.if-soonest-get.false, c.get.ensures.value) in
    ap listed_rows (sym (swept_before c.args.soonest.now c.args.t c.args.slots.now c.requires before)) ∙ swept_rows c.args.slots.now c.args.t
