-- The first fault of the wake-ups that are left is that of the whole list.
use Rattle.std.proofs.Common.{◌≡◌, ◌+◌, drop}
use Rattle.plan_rule.specs.Plans.{fault_from}
use Rattle.plan_rule.proofs.wake.wake_fault.Given as goal

abbrev pub invariant-loop-i : goal.invariant-loop-i
invariant-loop-i l = fault_from l.entries l.start l.before (l.i + 1) (drop l.i l.wakes) ≡ fault_from l.entries l.start l.start 1 l.wakes
