-- The first among those to come is the first of all.
use Rattle.std.proofs.Common.{◌≡◌, drop}
use Rattle.agent_words.specs.Starts.{bare_faults, first_listed_fault}
use Rattle.agent_words.proofs.first_fault.first_bare.Given as goal

abbrev pub invariant-loop-entry : goal.invariant-loop-entry
invariant-loop-entry l = first_listed_fault (bare_faults l.served l.entry (drop l.entry l.notes)) ≡ first_listed_fault (bare_faults l.served 0 l.notes)
