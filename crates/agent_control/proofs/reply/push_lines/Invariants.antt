-- What was written, and the lines to come, are the text of all of them.
use Rattle.std.proofs.Common.{◌≡◌, ◌++◌, drop}
use Rattle.agent_control.specs.Replies.{lines_text}
use Rattle.agent_control.proofs.reply.push_lines.Given as goal

abbrev pub invariant-loop-line : goal.invariant-loop-line
invariant-loop-line l = l.text.items ++ lines_text (drop l.line-index l.lines) ≡ l.initial.text.items ++ lines_text l.lines
