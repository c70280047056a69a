-- The runs so far are the front of the list, and the room for more of them shrinks.
use Rattle.plan_schedule.specs.Courses.{IsToCome}
use Rattle.plan_search.specs.code.Collecting.{RunsAreTaken}
use Rattle.plan_search.proofs.collect.collect.Given as goal

abbrev pub invariant-loop-run : goal.invariant-loop-run
invariant-loop-run l = RunsAreTaken (IsToCome l.initial.schedule.course) (IsToCome l.schedule.course) l.initial.schedule.runs l.schedule.runs l.runs.items l.room

abbrev pub decreases-loop-run : goal.decreases-loop-run
decreases-loop-run l = l.room
