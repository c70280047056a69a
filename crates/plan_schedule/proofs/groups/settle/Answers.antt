-- A turn either moves an entry, so that the groups shrink, or tells what forces the next wake-up.
use Rattle.std.proofs.Common.{◌+◌, ◌≤◌, subst, arith}
use Rattle.plan_schedule.specs.{code.Groups.IsTurnOfGroups, Prospect.terms_of}
use Rattle.plan_schedule.proofs.Moves.{turn_joined, turn_left}
use Rattle.plan_schedule.proofs.groups.settle.Goals as goal

pub loop-groups-smaller-in-Leaves : goal.loop-groups-smaller-in-Leaves
loop-groups-smaller-in-Leaves c =
    let o = c.args.outlook.now in
    (turn_left o c.args.at c.in-Leaves.field-0 c.args.groups.now c.loop-groups.groups c.leave.new.self c.loop-groups.invariant
    (subst (λ r. IsTurnOfGroups o c.args.at c.loop-groups.groups r) c.in-Leaves.is c.turn_at.ensures) c.leave.ensures.joined c.leave.ensures.room c.leave.ensures.waits).1

pub loop-groups-preserved-in-Leaves : goal.loop-groups-preserved-in-Leaves
loop-groups-preserved-in-Leaves c =
    let o = c.args.outlook.now in
    (turn_left o c.args.at c.in-Leaves.field-0 c.args.groups.now c.loop-groups.groups c.leave.new.self c.loop-groups.invariant
    (subst (λ r. IsTurnOfGroups o c.args.at c.loop-groups.groups r) c.in-Leaves.is c.turn_at.ensures) c.leave.ensures.joined c.leave.ensures.room c.leave.ensures.waits).0

pub loop-groups-smaller : goal.loop-groups-smaller
loop-groups-smaller c =
    let o = c.args.outlook.now in
    let t = terms_of o in
    let reached : t.end c.in-Comes.front ≤ c.args.at + t.step c.in-Comes.front = omega arith in
    (turn_joined o c.args.at c.in-Comes.front c.args.groups.now c.loop-groups.groups c.join.new.self c.loop-groups.invariant
    (subst (λ r. IsTurnOfGroups o c.args.at c.loop-groups.groups r) c.in-Comes.is c.turn_at.ensures) reached c.join.ensures.waits c.join.ensures.joined c.join.ensures.room).1

pub loop-groups-preserved : goal.loop-groups-preserved
loop-groups-preserved c =
    let o = c.args.outlook.now in
    let t = terms_of o in
    let reached : t.end c.in-Comes.front ≤ c.args.at + t.step c.in-Comes.front = omega arith in
    (turn_joined o c.args.at c.in-Comes.front c.args.groups.now c.loop-groups.groups c.join.new.self c.loop-groups.invariant
    (subst (λ r. IsTurnOfGroups o c.args.at c.loop-groups.groups r) c.in-Comes.is c.turn_at.ensures) reached c.join.ensures.waits c.join.ensures.joined c.join.ensures.room).0
