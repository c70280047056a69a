-- What was said, and the faults of the entries to come, are those of all.
use Rattle.std.proofs.Common.{◌≡◌, ◌++◌, drop}
use Rattle.agent_words.specs.Starts.{bare_faults}
use Rattle.agent_words.proofs.first_fault.push_bare.Given as goal

abbrev pub invariant-loop-entry : goal.invariant-loop-entry
invariant-loop-entry l = l.faults.items ++ bare_faults l.served l.entry (drop l.entry l.notes) ≡ l.initial.faults.items ++ bare_faults l.served 0 l.notes
