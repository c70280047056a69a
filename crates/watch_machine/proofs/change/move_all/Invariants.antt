-- The requests before the place are under the indices that their entries have now.
use Rattle.std.proofs.Common.{◌≡◌, ◌++◌, drop, take}
use Rattle.std.specs.List.{All}
use Rattle.watch_machine.specs.{Change.out_after, code.Bounds.WentOutAtReading}
use Rattle.watch_machine.proofs.change.move_all.Given as goal

abbrev pub invariant-loop-place : goal.invariant-loop-place
invariant-loop-place l = record {
  is : l.out ≡ out_after l.was l.count (take l.place l.initial.out) ++ drop l.place l.initial.out;
  bounds : All WentOutAtReading l.out;
}
