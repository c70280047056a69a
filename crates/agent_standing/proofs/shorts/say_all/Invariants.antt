-- Those before the index are said.
use Rattle.std.specs.List.{All}
use Rattle.agent_standing.specs.{Agent.IsStanding, Shorts.said_standing}
use Rattle.agent_standing.proofs.Saying.{Said}
use Rattle.agent_standing.proofs.shorts.say_all.Given as goal

abbrev pub invariant-loop-entry : goal.invariant-loop-entry
invariant-loop-entry l = record { said : Said (said_standing l.watch l.inventory.terms) l.initial.standings l.standings l.entry; bounds : All IsStanding l.standings }
