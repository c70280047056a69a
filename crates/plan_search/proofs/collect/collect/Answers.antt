-- One run more is taken from the list, which is overlong where the run has no room left.
use Rattle.std.proofs.Common.{◌-◌, ◌<◌, arith, subst, sym}
use Rattle.plan_schedule.specs.Courses.{IsToCome}
use Rattle.plan_search.specs.code.Collecting.{RunsAreTaken}
use Rattle.plan_search.proofs.Collecting.{one_more, overlong, whole}
use Rattle.plan_search.proofs.collect.collect.Goals as goal

pub returns-then-run-room : goal.returns-then-run-room
returns-then-run-room c =
    let old = IsToCome c.args.schedule.now.course in
    let mid = IsToCome c.loop-run.schedule.course in
    let new = IsToCome c.next_run.new.self.course in
    overlong old mid new c.args.schedule.now.runs c.loop-run.schedule.runs c.loop-run.runs.items c.loop-run.room c.in-Some.run' c.loop-run.invariant c.in-Some.ensures.run c.if-run-room.true

pub loop-run-preserved : goal.loop-run-preserved
loop-run-preserved c =
    let old = IsToCome c.args.schedule.now.course in
    let mid = IsToCome c.loop-run.schedule.course in
    let new = IsToCome c.next_run.new.self.course in
    let within = c.in-Some.ensures.run.within in
    let other = c.if-run-room.false in
    let less : c.in-Some.run'.count < c.loop-run.room = omega arith in
    subst (λ xs. RunsAreTaken old new c.args.schedule.now.runs c.next_run.new.self.runs xs (c.loop-run.room - c.in-Some.run'.count)) (sym c.in_ok-push.ensures.items)
    (one_more old mid new c.args.schedule.now.runs c.loop-run.schedule.runs c.next_run.new.self.runs c.loop-run.runs.items c.loop-run.room c.in-Some.run' c.loop-run.invariant c.in-Some.ensures.run less (c.in-Some.ensures.fewer.1 less))

pub returns : goal.returns
returns c =
    let old = IsToCome c.args.schedule.now.course in
    let mid = IsToCome c.loop-run.schedule.course in
    whole old mid c.args.schedule.now.runs c.loop-run.schedule.runs c.loop-run.runs.items c.loop-run.room c.loop-run.invariant c.in_default.ensures.run.0
