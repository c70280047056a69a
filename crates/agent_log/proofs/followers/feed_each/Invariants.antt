-- Those so far are fed, and the others are as they were.
use Rattle.std.proofs.Common.{◌≡◌, drop, length, take}
use Rattle.agent_log.specs.Feeding.{EachIsFed}
use Rattle.agent_log.proofs.followers.feed_each.Given as goal

abbrev pub invariant-loop-follower : goal.invariant-loop-follower
invariant-loop-follower g l = record {
  many : length l.followers ≡ length l.fn.followers;
  rest : drop l.follower-index l.followers ≡ drop l.follower-index l.fn.followers;
  fed : EachIsFed l.pen.form l.pen.moment (take l.follower-index l.fn.followers) (take l.follower-index l.followers) l.fn.clients l.clients;
}
