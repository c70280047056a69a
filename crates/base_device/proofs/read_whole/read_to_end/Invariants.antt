-- What was read so far is the front of the input, and the reads that were made are off those that were needed.
use Rattle.std.proofs.Common.{◌≡◌, ◌+◌, ◌<◌, ◌≤◌, ◌⊎◌, IfSome, vec_len}
use Rattle.std.specs.Io.KnownBytes.{Consumes}
use Rattle.base_device.specs.Whole.{MakesAtMost}
use Rattle.base_device.proofs.read_whole.read_to_end.Given as goal

abbrev pub invariant-loop : goal.invariant-loop
invariant-loop g l = record {
  given : Consumes (g.R.Device.seen l.fn.source).input.remaining (g.R.Device.seen l.source).input.remaining l.bytes.items;
  few : vec_len l.bytes ≤ l.max;
  pace : IfSome (g.R.Device.seen l.fn.source).input.remaining (λ _. (l.counter + (g.R.Device.seen l.source).input.reads_left ≤ (g.R.Device.seen l.fn.source).input.reads_left)
      × ((l.counter ≡ 0) ⊎ (0 < (g.R.Device.seen l.source).input.reads_left)));
  made : MakesAtMost l.counter (g.R.Device.seen l.fn.source).input (g.R.Device.seen l.source).input;
  output : (g.R.Device.seen l.source).output ≡ (g.R.Device.seen l.fn.source).output;
  count : (g.R.Device.seen l.source).failed_calls ≡ (g.R.Device.seen l.fn.source).failed_calls;
}
