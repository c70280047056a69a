-- The wake-ups of one run more are added, and their number stays within the limit.
use Rattle.std.proofs.Common.{ap, arith, length}
use Rattle.plan_rule.specs.Runs.{all_wakes}
use Rattle.plan_search.proofs.Walking.{count_from}
use Rattle.plan_search.proofs.plans.Plan.len.Goals as goal

pub overflow_add-count : goal.overflow_add-count
overflow_add-count c =
    let here = count_from c.runs-run-items.result.now c.loop-run.run-index (record { first = 0; step = 0; count = 0; entry = 0; needed = 0 }) (omega arith) in
    let same = ap (λ rs. length (all_wakes rs)) c.runs-run-items.ensures.value in
    let few = c.runs-run-items.ensures.sound.few in
    let so_far = c.loop-run.invariant in
    omega arith

pub loop-run-preserved : goal.loop-run-preserved
loop-run-preserved c =
    let here = count_from c.runs-run-items.result.now c.loop-run.run-index (record { first = 0; step = 0; count = 0; entry = 0; needed = 0 }) (omega arith) in
    let so_far = c.loop-run.invariant in
    omega arith
