-- The lookout that there is goes on.
use Rattle.agent_behind.proofs.Passing.{one_goes}
use Rattle.agent_behind.proofs.behind.Behind.go_ahead.Goals as goal

pub returns-in-Some-clause-goes : goal.returns-in-Some-clause-goes
returns-in-Some-clause-goes g c = one_goes c.args.self.now.lookout c.args.agent.now c.args.now c.in-Some.lookout c.go_on.new.self c.go_on.result c.in-Some.is c.go_on.ensures
