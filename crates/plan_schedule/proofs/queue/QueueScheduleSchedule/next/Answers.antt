-- A run of at most one wake-up is the head of the list.
use Rattle.std.proofs.Common.{◌≡◌, subst, refl, rules}
use Rattle.plan_rule.specs.declared.force.Force.{Force}
use Rattle.plan_schedule.specs.{Courses.IsToCome, Given.GivesRun}
use Rattle.plan_schedule.proofs.Queueing.{head_of_run}
use Rattle.plan_schedule.proofs.queue.QueueScheduleSchedule.next.Goals as goal

pub returns : goal.returns
returns c =
    let x : Force = record { at = c.unwrap.result; entry = c.in-Some.run'.entry; needed = c.in-Some.run'.needed } in
    let at : c.unwrap.result ≡ c.in-Some.run'.first = search rules in
    head_of_run (IsToCome c.args.self.now.course) (IsToCome c.next_run.new.self.course) c.in-Some.run' x
    (subst (λ r. GivesRun (IsToCome c.args.self.now.course) (IsToCome c.next_run.new.self.course) 1 r) c.in-Some.is c.next_run.ensures.run) at refl refl
