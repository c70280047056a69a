-- Turns follow the wait.
use Rattle.vault_asking.specs.Sending.{lanes_of}
use Rattle.agent_run.proofs.Runs.{runs_from}
use Rattle.agent_run.proofs.running.run_from.Goals as goal

pub returns : goal.returns
returns g c =
    runs_from g.N.Neighbours.does g.N.Neighbours.given g.C.Clock.seen (λ l. lanes_of (g.L.Lanes.behind l) (g.L.Lanes.out l) (g.L.Lanes.seconds l)) g.L.Lanes.host_port c.args.wait c.args.serving c.wait_first.new.serving c.run.new.self c.args.lanes.now
    c.wait_first.new.lanes c.run.new.lanes c.args.clock.now c.wait_first.new.clock c.run.new.clock c.args.neighbours.now c.wait_first.new.neighbours c.run.new.neighbours c.wait_first.ensures.waits c.wait_first.ensures.port c.run.ensures.turns
