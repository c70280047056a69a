-- The text so far has gained the lines of the entries before the index, with their ends.
use Rattle.std.proofs.Common.{◌≡◌, ◌++◌}
use Rattle.plan_commands.specs.{code.Making.at_index, EndsText.end_lines}
use Rattle.plan_commands.proofs.ends_text.push_lines.Given as goal

abbrev pub invariant-loop-index : goal.invariant-loop-index
invariant-loop-index l = l.text.items ≡ l.initial.text.items ++ end_lines l.forest.entries (at_index l.ends) l.index
