-- a_turn_is_bounded: the wait and the calls of a turn.
use Rattle.agent_turns.proofs.Bounded.{calls_law, wait_law}
use Rattle.agent_turns.proofs.laws.a_turn_is_bounded.Goals as goal

pub returns-clause-wait : goal.returns-clause-wait
returns-clause-wait c = wait_law

pub returns-clause-calls : goal.returns-clause-calls
returns-clause-calls c = calls_law
