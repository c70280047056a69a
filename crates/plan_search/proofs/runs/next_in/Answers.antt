-- The next wake-up of a run is its first, or the first of its steps past the moment, or there is none.
use Rattle.std.proofs.Common.{◌≡◌, ◌∙◌, ◌+◌, ◌-◌, ◌*◌, ◌/◌, ◌<◌, ◌≤◌, Some, ap, arith, suc, sym}
use Rattle.base_moment.specs.declared.moment.TheConstants.{LAST}
use Rattle.plan_search.proofs.Nexts.{all_passed, made, next_behind, next_first, next_none, passed, within_run}
use Rattle.plan_search.proofs.runs.next_in.Goals as goal

pub returns-then-get-run : goal.returns-then-get-run
returns-then-get-run c =
    let r = c.args.run in
    let last = c.requires.moments.last in
    made r.first c.new.result c.new.ensures.within c.new.ensures.value (omega arith)
    ∙ sym (next_first c.args.at r.first r.step r.count r.entry r.needed c.requires.moments.some (omega (arith, c.get.ensures.value)))

pub returns-then-run-eq0 : goal.returns-then-run-eq0
returns-then-run-eq0 c =
    let r = c.args.run in
    let some = c.requires.moments.some in
    let one : r.count ≡ 1 = c.requires.lone.0 c.if-run-eq0.true in
    let none : (r.count - 1) * r.step ≡ 0 = ap (λ k. (k - 1) * r.step) one ∙ (let z : (1 - 1) * r.step ≡ 0 = omega arith in z) in
    sym (next_none c.args.at r.first r.step r.count r.entry r.needed some (omega (arith, c.get.ensures.value)))

pub returns-then-passed-run : goal.returns-then-passed-run
returns-then-passed-run c =
    let r = c.args.run in
    let at = c.get-2.ensures.value in
    let first = c.get.ensures.value in
    let k = (c.get-2.result - r.first) / r.step in
    let here = passed c.args.at r.first r.step k (omega arith) (omega (arith, c.if-run-eq0.false)) (ap (λ t. (t - r.first) / r.step) at) in
    let more : suc k < r.count = omega (arith, c.if-passed-run.true) in
    let last : r.first + (k + 1) * r.step ≤ LAST = within_run r.first r.step (k + 1) r.count c.if-passed-run.true c.requires.moments.last in
    made (r.first + (k + 1) * r.step) c.new-then-passed-run.result c.new-then-passed-run.ensures.within c.new-then-passed-run.ensures.value last
    ∙ ap (λ n. Some (r.first + n * r.step)) (let e : k + 1 ≡ suc k = omega arith in e)
    ∙ sym (next_behind k c.args.at r.first r.step r.count r.entry r.needed here.0 here.1 more)

pub returns-else-passed-run : goal.returns-else-passed-run
returns-else-passed-run c =
    let r = c.args.run in
    let at = c.get-2.ensures.value in
    let first = c.get.ensures.value in
    let k = (c.get-2.result - r.first) / r.step in
    let here = passed c.args.at r.first r.step k (omega arith) (omega (arith, c.if-run-eq0.false)) (ap (λ t. (t - r.first) / r.step) at) in
    sym (next_none c.args.at r.first r.step r.count r.entry r.needed c.requires.moments.some (all_passed c.args.at r.first r.step k r.count here.0 (omega (arith, c.if-passed-run.false))))
