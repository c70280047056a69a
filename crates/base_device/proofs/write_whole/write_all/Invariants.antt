-- What was written so far is the front of the bytes.
use Rattle.std.proofs.Common.{◌≡◌, ◌-◌, ◌≤◌, length, take}
use Rattle.std.specs.Io.KnownBytes.{Appends}
use Rattle.base_device.proofs.write_whole.write_all.Given as goal

abbrev pub invariant-loop-at : goal.invariant-loop-at
invariant-loop-at g l = record {
  within : l.at ≤ length l.bytes;
  written : Appends (g.W.Device.seen l.fn.sink).output.written (g.W.Device.seen l.sink).output.written (take l.at l.bytes);
  input : (g.W.Device.seen l.sink).input ≡ (g.W.Device.seen l.fn.sink).input;
  count : (g.W.Device.seen l.sink).failed_calls ≡ (g.W.Device.seen l.fn.sink).failed_calls;
}

abbrev pub decreases-loop-at : goal.decreases-loop-at
decreases-loop-at g l = length l.bytes - l.at
