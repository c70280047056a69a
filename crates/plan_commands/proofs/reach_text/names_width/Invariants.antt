-- The width so far is that of the names before the index.
use Rattle.std.proofs.Common.{◌≡◌}
use Rattle.plan_commands.specs.ReachText.{widest}
use Rattle.plan_commands.proofs.reach_text.names_width.Given as goal

abbrev pub invariant-loop-index : goal.invariant-loop-index
invariant-loop-index l = l.width ≡ widest l.forest.entries l.index
