-- The text so far has gained the lines of the shortened needs that were passed.
use Rattle.std.proofs.Common.{◌≡◌, ◌++◌, take}
use Rattle.tick_runs.specs.Text.{short_need_lines}
use Rattle.tick_runs.proofs.agent.lines.push_short_lines.Given as goal

abbrev pub invariant-loop-pair : goal.invariant-loop-pair
invariant-loop-pair l = l.text.items ≡ l.initial.text.items ++ short_need_lines l.forest (take l.pair-index l.short)
