-- Whether one of the lines is of such a mount hangs on those that are left.
use Rattle.std.proofs.Common.{◌≡◌, length}
use Rattle.std.specs.List.{list_any}
use Rattle.base_words.specs.Pieces.{pieces}
use Rattle.agent_system.specs.Mounts.{is_memory_on}
use Rattle.agent_system.proofs.mounts.is_in_memory.Given as goal

abbrev pub invariant-loop-line : goal.invariant-loop-line
invariant-loop-line l = list_any (is_memory_on l.device) (pieces 10 l.mounts) ≡ list_any (is_memory_on l.device) (pieces 10 l.rest)

abbrev pub decreases-loop-line : goal.decreases-loop-line
decreases-loop-line l = length l.rest
