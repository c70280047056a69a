-- Whether some parameter is a weight of 0 hangs on those that are left.
use Rattle.std.proofs.Common.{◌≡◌, length}
use Rattle.std.specs.List.{list_any}
use Rattle.base_words.specs.Pieces.{pieces}
use Rattle.agent_pages.specs.Accept.{is_zero_weight}
use Rattle.agent_pages.proofs.accept.has_zero_weight.Given as goal

abbrev pub invariant-loop-parameter : goal.invariant-loop-parameter
invariant-loop-parameter l = list_any is_zero_weight (pieces 59 l.parameters) ≡ list_any is_zero_weight (pieces 59 l.rest)

abbrev pub decreases-loop-parameter : goal.decreases-loop-parameter
decreases-loop-parameter l = length l.rest
