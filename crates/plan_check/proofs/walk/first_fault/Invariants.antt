-- Each turn passes a run without a fault and counts its wake-ups.
use Rattle.std.proofs.Common.{◌≡◌, ◌+◌, ◌≤◌, IfSome, drop, length}
use Rattle.base_moment.specs.declared.moment.TheConstants.{LAST}
use Rattle.plan_forest.specs.Forest.{end_of}
use Rattle.plan_rule.specs.Runs.{all_wakes, wake_count}
use Rattle.plan_check.specs.{Answer.first_fault, code.Steps.AllFit, Walk.fault}
use Rattle.plan_check.proofs.walk.first_fault.Given as goal

-- what the whole walk finds is what the walk from here finds
abbrev pub invariant-loop-run : goal.invariant-loop-run
invariant-loop-run l = record {
  walk : fault l.forest.entries l.forest.margin l.start (end_of l.forest.entries) l.previous l.count (all_wakes (drop l.run-index l.runs)) ≡ first_fault l.forest l.start (all_wakes l.runs);
  fit : AllFit (length l.forest.entries) (drop l.run-index l.runs);
  number : l.count + wake_count (drop l.run-index l.runs) ≡ 1 + wake_count l.runs;
  room : IfSome l.previous (λ t. t ≤ LAST);
}
