-- The moments in time stop at a gap over the step, at the ceiling, or at the end of the run.
use Rattle.std.proofs.Common.{◌≡◌, ◌+◌, ◌-◌, ◌*◌, ◌<◌, ◌⊎◌, arith, subst}
use Rattle.plan_check.proofs.OwnRuns.{stops_at_ceiling, stops_at_last, stops_early}
use Rattle.plan_check.proofs.kept.more_in_time.Goals as goal

pub returns-then-entry-gap-clause-stops : goal.returns-then-entry-gap-clause-stops
returns-then-entry-gap-clause-stops c =
    let r = c.args.run.now in
    stops_early c.args.entry.now c.args.margin c.args.end r.step r.first c.gaps_until.result (r.count - 1) c.if-entry-gap.true c.requires.first c.gaps_until.ensures.within c.gaps_until.ensures.stop

pub returns-in-Some-clause-stops : goal.returns-in-Some-clause-stops
returns-in-Some-clause-stops c =
    let r = c.args.run.now in
    stops_at_ceiling c.args.entry.now c.args.margin c.args.end r.step r.first c.gaps_until-in-Some.result (r.count - 1) c.in-Some.ceiling c.if-entry-gap.false c.in-Some.is c.requires.first
    (omega (arith, c.gaps_until-in-Some.ensures.within, c.max.ensures))
    (subst (λ m. (c.gaps_until-in-Some.result ≡ r.count - 1) ⊎ (m - c.args.margin < r.first + c.gaps_until-in-Some.result * r.step + r.step)) c.max.ensures c.gaps_until-in-Some.ensures.stop)

pub returns-in-None-clause-stops : goal.returns-in-None-clause-stops
returns-in-None-clause-stops c =
    let r = c.args.run.now in
    stops_at_last c.args.entry.now c.args.margin c.args.end r.step r.first (r.count - 1) c.if-entry-gap.false c.in-None.is
