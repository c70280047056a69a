-- A step keeps the count of the entries.
use Rattle.tick_runs.proofs.Agents.{fit_turned}
use Rattle.tick_runs.proofs.agent.KeeperAgent.step.Goals as goal

pub invariant_of-self : goal.invariant_of-self
invariant_of-self c =
    fit_turned (record { keeper = c.self.inside.keeper; credentials = c.self.inside.credentials }) c.args.event c.step.result c.step.new.self c.self.invariant c.step.ensures
