-- One record more in front of those that were answered.
use Rattle.std.proofs.Common.{◌≡◌, ◌+◌, ◌-◌, ◌<◌, arith, drop, length}
use Rattle.state_changes.proofs.Later.{needs_next, outs_more}
use Rattle.state_changes.proofs.compaction.voids.Goals as goal

pub loop-index-preserved : goal.loop-index-preserved
loop-index-preserved c =
    let rs = c.args.records.now in
    let k = c.loop-index.index in
    let x = c.index-records-index.result in
    let more = c.loop-index-test.true in
    let within = c.loop-index.invariant.within in
    let one : k ≡ k - 1 + 1 = omega (arith, more) in
    let h : k - 1 < length rs = omega (arith, more, within) in
    let given = c.in_ok-is_void.ensures (drop k rs) c.loop-index.invariant.needs in
    record {
      within = omega (arith, within);
      outs = outs_more rs k (k - 1) x c.loop-index.outs.items c.push.new.self.items c.in_ok-is_void.field-0 one h c.index-records-index.is given.0 c.in_ok-push.ensures.items c.loop-index.invariant.outs;
      needs = needs_next c.is_void.new.later rs k (k - 1) x one h c.index-records-index.is given.1;
    }
