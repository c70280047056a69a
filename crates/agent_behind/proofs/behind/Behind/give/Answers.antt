-- The lookout that there is gives.
use Rattle.agent_behind.proofs.Passing.{one_gives}
use Rattle.agent_behind.proofs.behind.Behind.give.Goals as goal

pub returns-in-Some-clause-gives : goal.returns-in-Some-clause-gives
returns-in-Some-clause-gives g c = one_gives c.args.self.now.lookout c.args.agent.now c.in-Some.lookout c.give.new.self c.give.result c.in-Some.is c.give.ensures
