-- It is counted for each.
use Rattle.std.proofs.Common.{◌<◌, ◌∙◌, arith, length}
use Rattle.std.proofs.lemmas.List.{length-set}
use Rattle.agent_log.proofs.EachOne.{missed_next, rest_next}
use Rattle.agent_log.proofs.rooms.miss_each.Goals as goal

pub loop-follower-preserved : goal.loop-follower-preserved
loop-follower-preserved c =
    let i = c.loop-follower.invariant in
    let within : c.loop-follower.follower-index < length c.loop-follower.followers = omega arith in record {
      many = length-set _ _ _ ∙ i.many;
      rest = rest_next c.args.followers.now c.loop-follower.followers c.loop-follower.follower-index _ i.rest;
      missed = missed_next c.args.level c.args.followers.now c.loop-follower.followers c.loop-follower.follower-index c.follower-item.result c.miss.new.self within i.rest i.missed c.miss.ensures;
    }
