-- Whether one waits hangs on those to come.
use Rattle.std.proofs.Common.{◌≡◌, drop, map}
use Rattle.agent_pages.specs.{Naming.named_by, Waiting.is_some_waiting}
use Rattle.agent_pages.proofs.waiting.is_some_waiting.Given as goal

abbrev pub invariant-loop-row : goal.invariant-loop-row
invariant-loop-row l = is_some_waiting l.served.entries (map named_by (drop l.row-index l.named)) ≡ is_some_waiting l.served.entries (map named_by l.named)
