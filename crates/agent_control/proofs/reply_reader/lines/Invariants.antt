-- The lines that were read, and those of the rest, are all of them.
use Rattle.std.proofs.Common.{◌≡◌, ◌++◌, length, option_map}
use Rattle.base_words.specs.Pieces.{pieces}
use Rattle.agent_control.specs.Replies.{closed_lines}
use Rattle.agent_control.proofs.reply_reader.lines.Given as goal

abbrev pub invariant-loop-line : goal.invariant-loop-line
invariant-loop-line l = closed_lines (pieces 10 l.text) ≡ option_map (λ ls. l.lines.items ++ ls) (closed_lines (pieces 10 l.rest))

abbrev pub decreases-loop-line : goal.decreases-loop-line
decreases-loop-line l = length l.rest
