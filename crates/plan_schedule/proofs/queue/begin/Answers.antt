-- The wake-up that begins is the one that was due, and an entry that waited for it has joined.
use Rattle.std.proofs.Common.{◌-◌, subst, sym, arith}
use Rattle.plan_schedule.specs.code.Queueing.{GroupsAreReady, RunIsBegun}
use Rattle.plan_schedule.proofs.Queueing.{begun_waiting}
use Rattle.plan_schedule.proofs.queue.begin.Goals as goal

pub returns-in-Waiting-clause-begun : goal.returns-in-Waiting-clause-begun
returns-in-Waiting-clause-begun c =
    let o = c.args.outlook.now in
    subst (λ next. RunIsBegun o c.args.last c.args.groups.now c.join.new.self next c.in-Waiting.entry (c.deadline.result - c.margin.result)) (sym c.in-Waiting.is)
    (begun_waiting o c.args.last c.in-Waiting.entry (c.deadline.result - c.margin.result) c.args.groups.now c.join.new.self c.margin.ensures.sound
    (subst (λ next. GroupsAreReady o c.args.last c.args.groups.now next) c.in-Waiting.is c.requires.ready) (omega arith) c.join.ensures.waits c.join.ensures.joined c.join.ensures.room)
