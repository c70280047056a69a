-- The text so far is that of the ends before the current one.
use Rattle.std.proofs.Common.{◌≡◌, take}
use Rattle.agent_ends.specs.Ends.{ends_text}
use Rattle.agent_ends.proofs.text.ends_text.Given as goal

abbrev pub invariant-loop-end : goal.invariant-loop-end
invariant-loop-end l = l.text.items ≡ ends_text (take l.end-index l.ends)
