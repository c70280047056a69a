-- The requests to come are marked on what those before them have marked.
use Rattle.std.proofs.Common.{◌≡◌, drop}
use Rattle.agent_log.specs.LinesBehind.{with_steps}
use Rattle.agent_log.proofs.log_behind.mark_steps.Given as goal

abbrev pub invariant-loop-request : goal.invariant-loop-request
invariant-loop-request l = with_steps l.watch l.lead (drop l.request-index l.requests) l.marks ≡ with_steps l.watch l.lead l.requests l.initial.marks
