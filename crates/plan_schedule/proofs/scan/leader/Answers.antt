-- The leader of all entries is the one that leads when the last of them was passed.
use Rattle.std.proofs.Common.{◌≡◌, length, subst, arith}
use Rattle.plan_schedule.specs.{code.Scanning.LeadsBelow, Prospect.terms_of}
use Rattle.plan_schedule.proofs.Taking.{leader_of}
use Rattle.plan_schedule.proofs.scan.leader.Goals as goal

pub returns-clause-leader : goal.returns-clause-leader
returns-clause-leader c =
    let o = c.args.outlook.now in
    let all : c.loop-index.index ≡ length o.loads = omega arith in
    leader_of o c.args.last c.loop-index.best (subst (λ n. LeadsBelow (terms_of o) c.args.last n c.loop-index.best) all c.loop-index.invariant.0)
