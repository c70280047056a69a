-- The first fault that the walk over the wake-ups meets is that of the list; where it meets none, there is none.
use Rattle.std.proofs.Common.{◌≡◌, ◌+◌, ◌∙◌, ap, arith, drop, is_some, sym, true, false}
use Rattle.std.proofs.lemmas.List.{drop_all}
use Rattle.plan_rule.specs.Plans.{fault_from, wake_fault, wake_fault_at}
use Rattle.plan_rule.proofs.{Lists.unrolled, Walk.fault_from_cons, Walk.fault_from_nil, Walk.first_some_none, Walk.first_some_some}
use Rattle.plan_rule.proofs.wake.wake_fault.Goals as goal

pub returns-then-is_some : goal.returns-then-is_some
unfolding wake_fault
returns-then-is_some c =
    let n = c.len-entries.result in
    let s = c.args.start in
    let ws = c.args.wakes.now in
    let w = c.index-wakes-i.result in
    let i = c.loop-i.i in
    let rest = unrolled ws i w (omega arith) c.index-wakes-i.is in
    let found : is_some (wake_fault_at n s c.loop-i.before (i + 1) w) ≡ true = ap is_some (sym c.fault_at-fault.ensures) ∙ sym c.is_some.ensures ∙ c.if-is_some.true in
    c.fault_at-fault.ensures
    ∙ sym (first_some_some (wake_fault_at n s c.loop-i.before (i + 1) w) (fault_from n s w.at (i + 1 + 1) (drop (i + 1) ws)) found)
    ∙ sym (fault_from_cons n s c.loop-i.before (i + 1) w (drop (i + 1) ws))
    ∙ sym (ap (fault_from n s c.loop-i.before (i + 1)) rest)
    ∙ c.loop-i.invariant
    ∙ ap (λ m. fault_from m s s 1 ws) c.len-entries.ensures.value

pub loop-i-preserved : goal.loop-i-preserved
loop-i-preserved c =
    let n = c.len-entries.result in
    let s = c.args.start in
    let ws = c.args.wakes.now in
    let w = c.index-wakes-i.result in
    let i = c.loop-i.i in
    let rest = unrolled ws i w (omega arith) c.index-wakes-i.is in
    let none : is_some (wake_fault_at n s c.loop-i.before (i + 1) w) ≡ false = ap is_some (sym c.fault_at-fault.ensures) ∙ sym c.is_some.ensures ∙ c.if-is_some.false in
    sym (ap (fault_from n s c.loop-i.before (i + 1)) rest
    ∙ fault_from_cons n s c.loop-i.before (i + 1) w (drop (i + 1) ws)
    ∙ first_some_none (wake_fault_at n s c.loop-i.before (i + 1) w) (fault_from n s w.at (i + 1 + 1) (drop (i + 1) ws)) none)
    ∙ c.loop-i.invariant

pub returns : goal.returns
unfolding wake_fault
returns c =
    let n = c.len-entries.result in
    let s = c.args.start in
    let ws = c.args.wakes.now in
    sym (fault_from_nil n s c.loop-i.before (c.loop-i.i + 1))
    ∙ sym (ap (fault_from n s c.loop-i.before (c.loop-i.i + 1)) (drop_all c.loop-i.i ws (omega arith)))
    ∙ c.loop-i.invariant
    ∙ ap (λ m. fault_from m s s 1 ws) c.len-entries.ensures.value
