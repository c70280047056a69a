-- Each is fed, one after another.
use Rattle.std.proofs.Common.{◌<◌, ◌∙◌, arith, length}
use Rattle.std.proofs.lemmas.List.{length-set}
use Rattle.agent_log.proofs.EachOne.{fed_next, rest_next}
use Rattle.agent_log.proofs.followers.feed_each.Goals as goal

pub loop-follower-preserved : goal.loop-follower-preserved
loop-follower-preserved g c =
    let i = c.loop-follower.invariant in
    let within : c.loop-follower.follower-index < length c.loop-follower.followers = omega arith in record {
      many = length-set _ _ _ ∙ i.many;
      rest = rest_next c.args.followers.now c.loop-follower.followers c.loop-follower.follower-index _ i.rest;
      fed = fed_next c.args.pen.now.form c.args.pen.now.moment c.args.followers.now c.loop-follower.followers c.loop-follower.follower-index c.follower-item.result c.feed_one.new.follower
          c.args.clients.now c.loop-follower.clients c.feed_one.new.clients within i.rest i.fed c.feed_one.ensures;
    }
