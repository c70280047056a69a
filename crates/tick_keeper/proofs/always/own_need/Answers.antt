-- The need of an entry is a moment.
use Rattle.std.proofs.Common.{ap, arith}
use Rattle.plan_forest.specs.declared.entry.Entry.{Entry}
use Rattle.plan_rule.proofs.Lists.{need_within}
use Rattle.tick_keeper.proofs.always.own_need.Goals as goal

pub unwrap-requires : goal.unwrap-requires
unwrap-requires c =
    let most = need_within c.args.forest.now c.get.ensures.sound c.args.index in
    let same = ap (λ (e : Entry). e.need) c.get.ensures.value in
    c.new.ensures.within.1 (omega arith)
