-- What was taken so far is the front of the text.
use Rattle.std.proofs.Common.{◌-◌, ◌≤◌, length, take}
use Rattle.std.specs.Io.KnownBytes.{Keeps, Appends}
use Rattle.vault_lanes.specs.Failing.{FailsMore}
use Rattle.vault_lanes.proofs.lane.write.Given as goal

abbrev pub invariant-loop-taken : goal.invariant-loop-taken
invariant-loop-taken g l = record {
  within : l.taken ≤ length l.text;
  written : Appends (g.L.Line.written l.fn.line) (g.L.Line.written l.line) (take l.taken l.text);
  remaining : Keeps (g.L.Line.remaining l.fn.line) (g.L.Line.remaining l.line);
  failures : FailsMore 0 (g.L.Line.failures l.fn.line) (g.L.Line.failures l.line);
}

abbrev pub decreases-loop-taken : goal.decreases-loop-taken
decreases-loop-taken g l = length l.text - l.taken
