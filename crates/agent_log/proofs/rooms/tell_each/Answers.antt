-- Each is told for itself.
use Rattle.std.proofs.Common.{◌<◌, ◌∙◌, arith, length}
use Rattle.std.proofs.lemmas.List.{length-set}
use Rattle.agent_log.proofs.EachOne.{rest_next, told_next}
use Rattle.agent_log.proofs.rooms.tell_each.Goals as goal

pub loop-follower-preserved : goal.loop-follower-preserved
loop-follower-preserved c =
    let i = c.loop-follower.invariant in
    let within : c.loop-follower.follower-index < length c.loop-follower.followers = omega arith in record {
      many = length-set _ _ _ ∙ i.many;
      rest = rest_next c.args.followers.now c.loop-follower.followers c.loop-follower.follower-index _ i.rest;
      told = told_next c.args.pen.now.form c.args.pen.now.moment c.args.level c.args.text.now c.args.followers.now c.loop-follower.followers c.loop-follower.follower-index
          c.follower-item.result c.tell.new.follower within i.rest i.told c.tell.ensures;
    }
