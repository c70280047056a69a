-- One after another they stay, or go with their answers.
use Rattle.std.proofs.Common.{◌≤◌, ◌<◌, ◌∙◌, arith, sym, length}
use Rattle.vault_lanes.proofs.TakenOut.{at_last, goes_with, stays}
use Rattle.vault_lanes.proofs.seats.take_out.Goals as goal

pub loop-at-preserved-then-not-is_there : goal.loop-at-preserved-then-not-is_there
loop-at-preserved-then-not-is_there g c =
    let within : c.loop-at.at < length c.loop-at.out.items = omega (arith, c.loop-at.out.ok.0) in record {
      within = omega arith;
      room = c.loop-at.invariant.room;
      so_far = stays g.T.Standing.comes (g.T.Standing.there c.args.moment) g.T.Standing.said c.args.out.now.items c.loop-at.out.items c.loop-at.at c.loop-at.answers.items c.index.result.now within c.index.ensures
          (sym c.is_there.ensures ∙ c.if-not-is_there.true) c.loop-at.invariant.so_far;
    }

pub loop-at-preserved-in-Some : goal.loop-at-preserved-in-Some
loop-at-preserved-in-Some g c =
    let within : c.loop-at.at < length c.loop-at.out.items = omega (arith, c.loop-at.out.ok.0) in record {
      within = omega arith;
      room = omega arith;
      so_far = goes_with g.T.Standing.comes (g.T.Standing.there c.args.moment) g.T.Standing.said c.args.out.now.items c.loop-at.out.items c.remove-index.new.self.items c.loop-at.at c.loop-at.answers.items _
          c.index.result.now c.remove-index.result c.in-Some.answer within c.index.ensures c.remove-index.ensures.value (sym c.is_there.ensures ∙ c.if-not-is_there.false)
          (λ here. c.in-Some.ensures.comes c.args.moment here) c.in-Some.ensures.said c.remove-index.ensures.by_index.2 c.push_reserved.ensures.items c.loop-at.invariant.so_far;
    }

pub returns-clause-parted : goal.returns-clause-parted
returns-clause-parted g c =
    let past : length c.loop-at.out.items ≤ c.loop-at.at = omega (arith, c.loop-at.out.ok.0) in
    (at_last g.T.Standing.comes (g.T.Standing.there c.args.moment) g.T.Standing.said _ _ _ _ past c.loop-at.invariant.so_far).0

pub returns-clause-there : goal.returns-clause-there
returns-clause-there g c =
    let past : length c.loop-at.out.items ≤ c.loop-at.at = omega (arith, c.loop-at.out.ok.0) in
    (at_last g.T.Standing.comes (g.T.Standing.there c.args.moment) g.T.Standing.said _ _ _ _ past c.loop-at.invariant.so_far).1.0

pub returns-clause-said : goal.returns-clause-said
returns-clause-said g c =
    let past : length c.loop-at.out.items ≤ c.loop-at.at = omega (arith, c.loop-at.out.ok.0) in
    (at_last g.T.Standing.comes (g.T.Standing.there c.args.moment) g.T.Standing.said _ _ _ _ past c.loop-at.invariant.so_far).1.1
