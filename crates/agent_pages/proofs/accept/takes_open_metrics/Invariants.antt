-- Whether some field takes it hangs on the fields to come.
use Rattle.std.proofs.Common.{◌≡◌, drop, map}
use Rattle.httparse.specs.Spans.{header_bytes}
use Rattle.agent_pages.specs.Accept.{takes_fields}
use Rattle.agent_pages.proofs.accept.takes_open_metrics.Given as goal

abbrev pub invariant-loop-header : goal.invariant-loop-header
invariant-loop-header l = takes_fields (map (header_bytes l.bytes) (drop l.header-index l.headers)) ≡ takes_fields (map (header_bytes l.bytes) l.headers)
