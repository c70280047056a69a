-- An agent that was put together runs.
use Rattle.agent_run.proofs.Putting.{runs_so}
use Rattle.agent_run.proofs.run.run_over.Goals as goal

pub returns-clause-runs : goal.returns-clause-runs
returns-clause-runs g c =
    runs_so _ _ _ _ _ _ _ _ _ _ c.args.beginning.words.now c.args.beginning.start c.args.beginning.later c.args.parts c.args.doors c.begin.new.doors c.args.clock.now c.read_first-now.new.clock c.run_from.new.clock c.args.lanes.now c.run_from.new.lanes c.read_first-now.result
    c.in_ok-serving.field-0 c.run_from.new.neighbours c.read_first-now.ensures c.in_ok-serving.ensures.begun c.run_from.ensures
