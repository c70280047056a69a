-- A new queue is ready for its first wake-up, and its list is that of the forces from the start on.
use Rattle.std.proofs.Common.{◌≡◌, ◌∙◌, [], ap, length, None, subst, sym}
use Rattle.plan_schedule.specs.{declared.groups.Groups.Groups, code.Line.FirstOf, code.Queueing.GroupsAreReady}
use Rattle.plan_schedule.proofs.{Queueing.new_done, Queueing.new_due, Taking.comes_forces, queue.QueueSchedule.new.Goals.in-None, queue.QueueSchedule.new.Goals.in-Some}
use Rattle.plan_schedule.proofs.queue.QueueSchedule.new.Goals as goal

pub invariant_of-result : goal.invariant_of-result
invariant_of-result c =
    let o = c.new-outlook.result in
    let g : Groups = record { waits = c.in_ok-waiting.field-0; joined = c.in_ok-with_room.field-0 } in
    let room : c.in_ok-with_room.field-0 ≡ record { spots = []; room = length o.loads } = c.in_ok-with_room.ensures ∙ ap (λ k. record { spots = []; room = k }) c.len.ensures.value in (
      tt,
      elim c.match-first.branch [
        | in-None w ↦ subst (λ next. GroupsAreReady o None g next) (sym w.next-is) (new_done o g c.in_ok-waiting.ensures room (subst (λ r. FirstOf g.waits.spots r) w.in-None.is c.first.ensures))
        | in-Some w ↦ subst (λ next. GroupsAreReady o None g next) (sym w.next-is) (new_due o g w.in-Some.front c.in_ok-waiting.ensures room (subst (λ r. FirstOf g.waits.spots r) w.in-Some.is c.first.ensures))
      ],
    )

pub returns-clause-list : goal.returns-clause-list
returns-clause-list c = λ xs.
    comes_forces c.new-outlook.result c.args.forest.now c.args.carried.now c.args.start c.new-outlook.ensures.value c.new-outlook.ensures.sound c.requires.carried c.requires.keepable xs
