-- secrets_change_no_turn: turns, a change of the inventory, and an inventory that is handed over.
use Rattle.agent_turns.proofs.Alike.{alike_law, changed_alike_law, served_alike_law}
use Rattle.agent_turns.proofs.laws.secrets_change_no_turn.Goals as goal

pub returns-clause-turns : goal.returns-clause-turns
returns-clause-turns c = alike_law

pub returns-clause-change : goal.returns-clause-change
returns-clause-change c = changed_alike_law

pub returns-clause-served : goal.returns-clause-served
returns-clause-served c = served_alike_law
