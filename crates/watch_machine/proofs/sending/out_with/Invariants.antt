-- The requests before the index are out, after those that were.
use Rattle.std.proofs.Common.{◌≡◌, ◌++◌, map, take}
use Rattle.std.specs.List.{All}
use Rattle.watch_machine.specs.{Sending.out_at, code.Bounds.WentOutAtReading}
use Rattle.watch_machine.proofs.sending.out_with.Given as goal

abbrev pub invariant-loop-request : goal.invariant-loop-request
invariant-loop-request l = record {
  is : l.all.items ≡ l.out ++ map (out_at l.at) (take l.request-index l.requests);
  bounds : All WentOutAtReading l.all.items;
}
