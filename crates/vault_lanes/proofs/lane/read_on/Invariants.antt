-- What came so far is held, and each piece of it that was judged is counted; what was not judged at first is judged first.
use Rattle.std.proofs.Common.{◌≡◌, ◌<◌, ◌≤◌, ◌⊎◌, IsTrue, length, vec_capacity}
use Rattle.std.specs.Io.KnownBytes.{Keeps}
use Rattle.vault_lanes.specs.{Failing.FailsMore, Stages.reads_with, code.Courses.came_by, code.Courses.is_unjudged, declared.stage.RequestStage.TheVariants.Connecting}
use Rattle.vault_lanes.specs.Lanes.{AreWaitedFor, Came, to_come}
use Rattle.vault_lanes.proofs.Judged.{IsStill}
use Rattle.vault_lanes.proofs.lane.read_on.Given as goal

abbrev pub invariant-loop : goal.invariant-loop
invariant-loop g l = record {
  room : length l.room ≡ length l.fn.room;
  allowance : l.course.allowance ≡ l.fn.course.allowance;
  written : Keeps (g.L.Line.written l.fn.line) (g.L.Line.written l.line);
  came : Came (came_by l.fn.course) (came_by l.course) (to_come l.fn.course.has_ended (g.L.Line.remaining l.fn.line)) (to_come l.course.has_ended (g.L.Line.remaining l.line));
  failures : FailsMore 0 (g.L.Line.failures l.fn.line) (g.L.Line.failures l.line);
  counted : l.counter < reads_with l.course.stage;
  sent : l.course.stage ≡ Connecting → ⊥;
  first : IsTrue (is_unjudged l.fn.course) → IsStill l.counter l.fn.line l.line l.fn.course l.course ⊎ AreWaitedFor (came_by l.fn.course);
  roomy : length l.fn.room ≤ vec_capacity l.fn.course.piece → length l.room ≤ vec_capacity l.course.piece;
  waited : (came_by l.course ≡ came_by l.fn.course) ⊎ AreWaitedFor (came_by l.course);
}
