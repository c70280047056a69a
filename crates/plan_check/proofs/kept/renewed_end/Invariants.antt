-- Each turn passes runs, and those that are left lead from the end so far to the entry's last end.
use Rattle.std.proofs.Common.{◌≡◌, ◌-◌, drop, length}
use Rattle.plan_rule.specs.Runs.{all_wakes, moments_of}
use Rattle.plan_check.specs.Kept.{own_end}
use Rattle.plan_check.proofs.kept.renewed_end.Given as goal

-- the own end from here is the whole own end
abbrev pub invariant-loop-at : goal.invariant-loop-at
invariant-loop-at l = own_end l.entry l.margin l.end (moments_of (all_wakes (drop l.at l.runs))) ≡ own_end l.entry l.margin l.entry.end (moments_of (all_wakes l.runs))

abbrev pub decreases-loop-at : goal.decreases-loop-at
decreases-loop-at l = length l.runs - l.at
