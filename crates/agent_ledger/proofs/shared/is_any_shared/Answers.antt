-- One row more in front of those that are known.
use Rattle.std.proofs.Common.{◌≡◌, ◌+◌, ◌-◌, ◌<◌, arith, drop, length}
use Rattle.agent_ledger.proofs.Sharing.{any_next, held_next}
use Rattle.agent_ledger.proofs.shared.is_any_shared.Goals as goal

pub loop-index-preserved : goal.loop-index-preserved
loop-index-preserved c =
    let rows = c.args.rows.now in
    let k = c.loop-index.index in
    let x = c.index-rows-index.result in
    let more = c.loop-index-test.true in
    let within = c.loop-index.invariant.within in
    let one : k ≡ k - 1 + 1 = omega (arith, more) in
    let h : k - 1 < length rows = omega (arith, more, within) in
    let given = c.in_ok-shared.ensures (drop k rows) c.loop-index.invariant.held in
    record {
      within = omega (arith, within);
      any = any_next rows k (k - 1) x c.loop-index.is_any c.in_ok-shared.shared one h c.index-rows-index.is given.0 c.loop-index.invariant.any;
      held = held_next c.is_shared.new.later rows k (k - 1) x one h c.index-rows-index.is given.1;
    }
