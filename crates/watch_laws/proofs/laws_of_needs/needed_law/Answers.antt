-- needed_law: the laws as they are proved in Needing.
use Rattle.watch_laws.proofs.Needing.{needed, none_added, none_dropped, only_needed}
use Rattle.watch_laws.proofs.laws_of_needs.needed_law.Goals as goal

pub returns-clause-needed : goal.returns-clause-needed
returns-clause-needed c = needed

pub returns-clause-none_dropped : goal.returns-clause-none_dropped
returns-clause-none_dropped c = none_dropped

pub returns-clause-only_needed : goal.returns-clause-only_needed
returns-clause-only_needed c = only_needed

pub returns-clause-none_added : goal.returns-clause-none_added
returns-clause-none_added c = none_added
