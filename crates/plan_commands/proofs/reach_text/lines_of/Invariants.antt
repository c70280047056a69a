-- The text so far is the lines of the entries before the index, with what binds them.
use Rattle.plan_commands.specs.ReachText.{AreReachLines}
use Rattle.plan_commands.proofs.reach_text.lines_of.Given as goal

abbrev pub invariant-loop-index : goal.invariant-loop-index
invariant-loop-index l = AreReachLines l.forest l.start l.layout.dates l.index l.lines.items
