-- The standings of the entries before the index are carried over.
use Rattle.std.proofs.Common.{◌≡◌, map}
use Rattle.std.specs.List.{All, range_with_len}
use Rattle.agent_standing.specs.{Agent.IsStanding, Changed.carried_standing}
use Rattle.agent_standing.proofs.agent.Agent.carried.Given as goal

abbrev pub invariant-loop-index : goal.invariant-loop-index
invariant-loop-index l = record { is : l.standings.items ≡ map (carried_standing l.self l.inventory) (range_with_len 0 l.index); bounds : All IsStanding l.standings.items }
