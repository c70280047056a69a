-- A start on the same file.
use Rattle.state_store.proofs.Lawful.{restarted}
use Rattle.state_store.proofs.laws.a_restart_changes_nothing.Goals as goal

pub returns : goal.returns
returns c = restarted
