-- What came so far is shown.
use Rattle.std.proofs.Common.{◌≡◌, length}
use Rattle.base_device.specs.Seen.{change}
use Rattle.program_calls.proofs.Passed.{SoFar}
use Rattle.program_calls.proofs.following.pass_on.Given as goal

abbrev pub invariant-loop : goal.invariant-loop
invariant-loop g l = record {
  room : length l.room ≡ 65536;
  so_far : SoFar l.counter (change g.L.Device.is_in_memory (g.L.Device.seen l.fn.line) (g.L.Device.seen l.line)) (change g.W.Device.is_in_memory (g.W.Device.seen l.fn.out) (g.W.Device.seen l.out));
}
