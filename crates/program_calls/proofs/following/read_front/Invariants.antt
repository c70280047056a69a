-- What was read so far is the front of what comes, and each read gave a byte at least.
use Rattle.std.proofs.Common.{◌≡◌, ◌≤◌, length, vec_len}
use Rattle.std.specs.Io.KnownBytes.{Consumes}
use Rattle.base_device.specs.Whole.{MakesAtMost}
use Rattle.program_calls.proofs.following.read_front.Given as goal

abbrev pub invariant-loop : goal.invariant-loop
invariant-loop g l = record {
  room : length l.room ≡ 65536;
  few : vec_len l.front ≤ 3;
  grown : l.counter ≤ vec_len l.front;
  read : Consumes (g.L.Device.seen l.fn.line).input.remaining (g.L.Device.seen l.line).input.remaining l.front.items;
  made : MakesAtMost l.counter (g.L.Device.seen l.fn.line).input (g.L.Device.seen l.line).input;
  output : (g.L.Device.seen l.line).output ≡ (g.L.Device.seen l.fn.line).output;
  count : (g.L.Device.seen l.line).failed_calls ≡ (g.L.Device.seen l.fn.line).failed_calls;
}
