-- Of the entries before the index it is said where they were.
use Rattle.std.proofs.Common.{◌≡◌, map}
use Rattle.std.specs.List.{range_with_len}
use Rattle.agent_standing.specs.Changed.{was_of}
use Rattle.agent_standing.proofs.agent.Agent.all_was.Given as goal

abbrev pub invariant-loop-index : goal.invariant-loop-index
invariant-loop-index l = l.was.items ≡ map (was_of l.self.inventory l.inventory) (range_with_len 0 l.index)
