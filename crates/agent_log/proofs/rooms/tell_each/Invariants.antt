-- Those so far are told, and the others are as they were.
use Rattle.std.proofs.Common.{◌≡◌, drop, length, take}
use Rattle.agent_log.specs.Lines.{EachIsTold}
use Rattle.agent_log.proofs.rooms.tell_each.Given as goal

abbrev pub invariant-loop-follower : goal.invariant-loop-follower
invariant-loop-follower l = record {
  many : length l.followers ≡ length l.fn.followers;
  rest : drop l.follower-index l.followers ≡ drop l.follower-index l.fn.followers;
  told : EachIsTold l.pen.form l.pen.moment l.level l.text (take l.follower-index l.fn.followers) (take l.follower-index l.followers);
}
