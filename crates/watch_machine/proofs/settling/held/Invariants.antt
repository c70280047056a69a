-- The least time of the tracks before the index is found.
use Rattle.std.proofs.Common.{◌≡◌, ◌≤◌, map, take}
use Rattle.watch_machine.specs.{Wanted.least, Settling.held_by}
use Rattle.watch_machine.proofs.settling.held.Given as goal

abbrev pub invariant-loop-track : goal.invariant-loop-track
invariant-loop-track l = record {
  is : l.least ≡ least l.initial.least (map (held_by l.margin l.at) (take l.track-index l.tracks));
  within : l.least ≤ 300000;
}
