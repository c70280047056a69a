-- So far nothing is said of so many entries.
use Rattle.std.proofs.Common.{◌≡◌, replicate}
use Rattle.agent_standing.specs.Standings.{fresh_standing}
use Rattle.agent_standing.proofs.agent.fresh_standings.Given as goal

abbrev pub invariant-loop : goal.invariant-loop
invariant-loop l = l.standings.items ≡ replicate l.counter fresh_standing
