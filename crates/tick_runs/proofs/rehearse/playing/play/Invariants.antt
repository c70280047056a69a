-- The wake-ups so far are those of the run, and their lines are written after those that came before.
use Rattle.std.proofs.Common.{◌≡◌, Some}
use Rattle.tick_runs.specs.Stops.{both}
use Rattle.tick_runs.proofs.Written.{Going}
use Rattle.tick_runs.proofs.rehearse.playing.play.Given as goal

abbrev pub invariant-loop-wakes : goal.invariant-loop-wakes
invariant-loop-wakes g l = record {
  going : Going l.fn.agent.credentials (both l.fn.agent.keeper (Some l.fn.exchange)) l.fn.start l.fn.lines (g.W.Device.seen l.fn.out).output.written (g.W.Device.seen l.fn.out).failed_calls (both l.agent.keeper (Some l.exchange)) l.due l.wakes l.requests
      (g.W.Device.seen l.out).output.written (g.W.Device.seen l.out).failed_calls;
  credentials : l.agent.credentials ≡ l.fn.agent.credentials;
}
