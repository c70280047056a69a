-- The ends so far, and those of the rest, are those of the whole.
use Rattle.std.proofs.Common.{◌≡◌, ◌++◌, length}
use Rattle.base_words.specs.Pieces.{pieces}
use Rattle.agent_ends.specs.Ends.{ends_in}
use Rattle.agent_ends.proofs.text.read_ends.Given as goal

abbrev pub invariant-loop-line : goal.invariant-loop-line
invariant-loop-line l = l.ends.items ++ ends_in l.boot l.rest ≡ ends_in l.boot l.text

abbrev pub decreases-loop-line : goal.decreases-loop-line
decreases-loop-line l = length (pieces 10 l.rest)
