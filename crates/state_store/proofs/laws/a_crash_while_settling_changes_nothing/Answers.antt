-- A file that becomes what is kept.
use Rattle.state_store.proofs.Marked.{moved_law}
use Rattle.state_store.proofs.laws.a_crash_while_settling_changes_nothing.Goals as goal

pub returns : goal.returns
returns c = moved_law
