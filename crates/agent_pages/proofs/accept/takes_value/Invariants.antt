-- Whether some range takes it hangs on those that are left.
use Rattle.std.proofs.Common.{◌≡◌, length}
use Rattle.std.specs.List.{list_any}
use Rattle.base_words.specs.Pieces.{pieces}
use Rattle.agent_pages.specs.Accept.{takes_range}
use Rattle.agent_pages.proofs.accept.takes_value.Given as goal

abbrev pub invariant-loop-range : goal.invariant-loop-range
invariant-loop-range l = list_any takes_range (pieces 44 l.value) ≡ list_any takes_range (pieces 44 l.rest)

abbrev pub decreases-loop-range : goal.decreases-loop-range
decreases-loop-range l = length l.rest
