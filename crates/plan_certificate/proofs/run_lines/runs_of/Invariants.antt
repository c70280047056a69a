-- The lines from here on, after the runs that were found, are the whole from the start.
use Rattle.std.proofs.Common.{◌≡◌, ◌≤◌, ◌*◌, [], length}
use Rattle.plan_rule.specs.{declared.limit.TheConstants.LIMIT, Runs.wake_count}
use Rattle.plan_certificate.specs.{Lines.lines, Reading.runs_of}
use Rattle.plan_certificate.proofs.run_lines.runs_of.Given as goal

abbrev pub invariant-loop-read : goal.invariant-loop-read
invariant-loop-read l = record {
  whole : runs_of l.version l.forest.entries l.runs.items (lines l.rest) ≡ runs_of l.version l.forest.entries [] (lines l.text);
  found : length l.runs.items ≡ l.read;
  total : l.total ≡ wake_count l.runs.items;
  within : l.total ≤ l.read * LIMIT;
}
