-- Each neighbour is given its part, step by step.
use Rattle.agent_house.proofs.Attended.{attended}
use Rattle.agent_house.proofs.house.House.attend.Goals as goal

pub returns : goal.returns
returns g c =
    attended g.S.LogSink.written g.S.LogSink.failures g.S.LogSink.tries g.S.LogSink.tried g.T.Talk.remaining g.T.Talk.written g.T.Talk.calls g.D.Door.log g.K.Keeping.rows g.K.Keeping.keeps c.args.agent.now c.args.now c.give-is_more.result c.any_of.result c.both.result
    c.show-shown.result c.answer-answered.result c.args.self.now c.give-is_more.new.self c.feed.new.self c.around-around.result c.named_in-named.result.now c.show-shown.new.onlookers c.answer-answered.new.control c.hear_want.new.self
    c.give-is_more.ensures.given c.give-is_more.ensures.tries c.give-is_more.ensures.rest c.feed.ensures.fed c.feed.ensures.rest c.around-around.ensures c.named_in-named.ensures c.show-shown.ensures c.answer-answered.ensures c.both.ensures
    c.hear_want.ensures c.any_of.ensures
