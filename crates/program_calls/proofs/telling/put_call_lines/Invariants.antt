-- Once the reasons to come are told, or a front of them, all of them are, or a front.
use Rattle.std.proofs.Common.{Result, drop}
use Rattle.base_device.specs.{Seen.Seen, Seen.change, declared.fault.SinkFault.SinkFault}
use Rattle.program_report.specs.Sent.{Puts}
use Rattle.program_calls.specs.Lines.{call_lines}
use Rattle.program_calls.proofs.telling.put_call_lines.Given as goal

abbrev pub invariant-loop-why : goal.invariant-loop-why
invariant-loop-why g l = (r : Result (Unit {0}) SinkFault) (last : Seen)
    → Puts r (call_lines l.call (drop l.why-index l.whys)) (change g.E.Device.is_in_memory (g.E.Device.seen l.errors) last)
    → Puts r (call_lines l.call l.whys) (change g.E.Device.is_in_memory (g.E.Device.seen l.fn.errors) last)
