-- The run that is taken is the front of the list, and the queue is ready for what follows it.
use Rattle.std.proofs.Common.{◌≡◌, ◌+◌, ◌-◌, ◌<◌, ◌⊎◌, None, Some, subst, inl, inr, arith}
use Rattle.plan_schedule.specs.{Courses.IsToCome, Prospect.terms_of, code.Queueing.GroupsAreReady, Queues.Queue, Given.GivesRun, Given.IsFirstRun}
use Rattle.plan_schedule.proofs.{Queueing.gives_no_run, Queueing.ready_settled, Queueing.taken, queue.QueueSchedule.next_run.Goals.else-stretch-eq0, queue.QueueSchedule.next_run.Goals.then-stretch-eq0}
use Rattle.plan_schedule.proofs.queue.QueueSchedule.next_run.Goals as goal

pub returns-in_default-clause-run : goal.returns-in_default-clause-run
returns-in_default-clause-run c =
    let o = c.self.inside.outlook in
    let prev = c.self.inside.last in
    let ready = subst (λ next. GroupsAreReady o prev c.self.inside.groups next) (c.begin.ensures.none c.in_default.is).0 c.self.invariant.1 in
    subst (λ (q : Queue). GivesRun (IsToCome q.course) (IsToCome (record { prospect = o; last = prev })) c.args.most None) c.self.view_is (gives_no_run o prev c.args.most ready)

pub invariant_of-self-2 : goal.invariant_of-self-2
invariant_of-self-2 c =
    let o = c.self.inside.outlook in (
      c.extend-stretch.ensures.taken.moment,
      ready_settled o c.extend-stretch.result.last c.begin.new.groups c.extend-stretch.new.groups c.extend-stretch.result.next c.extend-stretch.ensures.taken.settles,
    )

pub returns-clause-run : goal.returns-clause-run
returns-clause-run c =
    let o = c.self.inside.outlook in
    let t = terms_of o in
    let prev = c.self.inside.last in
    let f = c.in-Some.begun.entry in
    let first = c.in-Some.begun.first in
    let more = c.extend-stretch.result.more in
    let last = c.extend-stretch.result.last in
    let s = c.if-stretch-eq0.result in
    let step : ((more ≡ 0) × (s ≡ 0)) ⊎ ((0 < more) × (s ≡ t.step f - t.margin)) =
    elim c.if-stretch-eq0.branch [
      | then-stretch-eq0 w ↦ inl (omega arith, omega arith)
      | else-stretch-eq0 w ↦ inr (omega arith, omega arith)
    ] in
    subst (λ (q : Queue). IsFirstRun (IsToCome q.course) (IsToCome (record { prospect = o; last = Some last })) c.args.most
    (record { first = first; step = s; count = more + 1; entry = f; needed = c.from.result })) c.self.view_is
    (taken o prev f first c.args.most more last s c.from.result c.self.inside.groups c.begin.new.groups c.extend-stretch.new.groups c.self.inside.next c.extend-stretch.result.next
    c.extend-stretch.ensures.sound c.in-Some.ensures.begun c.extend-stretch.ensures.taken c.extend-stretch.ensures.ended c.from.ensures step)
