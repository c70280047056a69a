-- The requests before the index have heard of it.
use Rattle.std.proofs.Common.{◌≡◌, ◌++◌, drop, map, take}
use Rattle.std.specs.List.{All}
use Rattle.watch_machine.specs.{Answers.heard, code.Bounds.WentOutAtReading}
use Rattle.watch_machine.proofs.answers.hear_all.Given as goal

abbrev pub invariant-loop-index : goal.invariant-loop-index
invariant-loop-index l = record {
  is : l.out ≡ map heard (take l.index l.initial.out) ++ drop l.index l.initial.out;
  bounds : All WentOutAtReading l.out;
}
