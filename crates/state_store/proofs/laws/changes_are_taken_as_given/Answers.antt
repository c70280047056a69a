-- A change as it was given.
use Rattle.state_store.proofs.Lawful.{as_given}
use Rattle.state_store.proofs.laws.changes_are_taken_as_given.Goals as goal

pub returns : goal.returns
returns c = as_given
