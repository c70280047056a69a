-- The type stands among the words that are left.
use Rattle.std.proofs.Common.{◌≡◌, length}
use Rattle.base_words.specs.Pieces.{words}
use Rattle.agent_system.specs.Mounts.{type_in}
use Rattle.agent_system.proofs.mounts.type_in.Given as goal

abbrev pub invariant-loop-word : goal.invariant-loop-word
invariant-loop-word l = type_in (words l.line) ≡ type_in (words l.rest)

abbrev pub decreases-loop-word : goal.decreases-loop-word
decreases-loop-word l = length l.rest
