-- No margin above this one is in front.
use Rattle.std.proofs.Common.{◌≡◌}
use Rattle.plan_forest.specs.declared.forest.TheConstants.{MARGIN_MAX}
use Rattle.plan_spread.specs.Behind.{in_front_up_to}
use Rattle.plan_spread.proofs.behind.margin_in_front.Given as goal

abbrev pub invariant-loop-less : goal.invariant-loop-less
invariant-loop-less l = in_front_up_to l.behind l.number l.less ≡ in_front_up_to l.behind l.number MARGIN_MAX
