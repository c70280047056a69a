-- The ends so far are those of the entries before the index.
use Rattle.std.proofs.Common.{◌≡◌}
use Rattle.std.specs.List.{flat_map, range_with_len}
use Rattle.agent_ends.specs.Ends.{ends_told_at}
use Rattle.agent_ends.proofs.events.ends_of.Given as goal

abbrev pub invariant-loop-index : goal.invariant-loop-index
invariant-loop-index l = l.ends.items ≡ flat_map (ends_told_at l.agent l.boot) (range_with_len 0 l.index)
