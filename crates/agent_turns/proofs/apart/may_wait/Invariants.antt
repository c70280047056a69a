-- None of the entries so far may have to be asked by then.
use Rattle.std.proofs.Common.{◌≡◌, ℕ, ◌<◌, false}
use Rattle.agent_turns.specs.Apart.{may_be_due_at}
use Rattle.agent_turns.proofs.apart.may_wait.Given as goal
use Rattle.watch_machine.specs.Clocks.{second_of_wall}

abbrev pub invariant-loop-index : goal.invariant-loop-index
invariant-loop-index l = (i : ℕ) → i < l.index → may_be_due_at l.agent (second_of_wall l.fn.wall) l.until i ≡ false
