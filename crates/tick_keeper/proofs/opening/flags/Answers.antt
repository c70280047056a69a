-- The flag of one asked entry more is set, which lies among the flags since no index is past the entries.
use Rattle.std.proofs.Common.{◌<◌, arith, length, refl}
use Rattle.plan_rule.proofs.Lists.{asked_within}
use Rattle.tick_keeper.proofs.Waking.{flags_more}
use Rattle.tick_keeper.proofs.opening.flags.Goals as goal

pub index_mut-requires : goal.index_mut-requires
index_mut-requires c =
    let asked = c.args.asked.now in
    let k = c.loop-index.index-index in
    let within : k < length asked = omega arith in
    let inside = asked_within c.args.entries asked c.requires k within in
    let count = c.loop-index.invariant.count in
    omega arith

pub loop-index-preserved : goal.loop-index-preserved
loop-index-preserved c =
    let asked = c.args.asked.now in
    let k = c.loop-index.index-index in
    let within : k < length asked = omega arith in
    flags_more c.args.entries asked c.loop-index.flags.items k _ within refl (asked_within c.args.entries asked c.requires k within) c.loop-index.invariant
