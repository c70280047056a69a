-- What was read so far is a front of the input without a line feed, a byte for each turn.
use Rattle.std.proofs.Common.{◌≡◌, length}
use Rattle.std.specs.Io.KnownBytes.{Consumes}
use Rattle.base_device.specs.Whole.{MakesAtMost}
use Rattle.broker_table.specs.MomentLine.{IsOneLine}
use Rattle.broker_table.proofs.moment_line.read_line.Given as goal

abbrev pub invariant-loop : goal.invariant-loop
invariant-loop g l = record {
  given : Consumes (g.S.Device.seen l.fn.source).input.remaining (g.S.Device.seen l.source).input.remaining l.line.items;
  one : IsOneLine l.line.items;
  turns : length l.line.items ≡ l.counter;
  reads : MakesAtMost l.counter (g.S.Device.seen l.fn.source).input (g.S.Device.seen l.source).input;
  output : (g.S.Device.seen l.source).output ≡ (g.S.Device.seen l.fn.source).output;
  count : (g.S.Device.seen l.source).failed_calls ≡ (g.S.Device.seen l.fn.source).failed_calls;
}
