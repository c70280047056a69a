-- It is counted for those so far, and the others are as they were.
use Rattle.std.proofs.Common.{◌≡◌, drop, length, map, take}
use Rattle.agent_log.specs.Rooms.{misses}
use Rattle.agent_log.proofs.rooms.miss_each.Given as goal

abbrev pub invariant-loop-follower : goal.invariant-loop-follower
invariant-loop-follower l = record {
  many : length l.followers ≡ length l.fn.followers;
  rest : drop l.follower-index l.followers ≡ drop l.follower-index l.fn.followers;
  missed : take l.follower-index l.followers ≡ map (misses l.level) (take l.follower-index l.fn.followers);
}
