-- What is left is a list of runs, with the same next wake-up as the whole list.
use Rattle.std.proofs.Common.{◌≡◌, drop}
use Rattle.plan_rule.specs.Runs.{AreRuns, all_wakes}
use Rattle.plan_search.specs.Planned.{next_after}
use Rattle.plan_search.proofs.runs.next_after.Given as goal

abbrev pub invariant-loop-run : goal.invariant-loop-run
invariant-loop-run l = record {
  runs : AreRuns (drop l.run-index l.runs);
  next : next_after l.at (all_wakes (drop l.run-index l.runs)) ≡ next_after l.at (all_wakes l.runs);
}
