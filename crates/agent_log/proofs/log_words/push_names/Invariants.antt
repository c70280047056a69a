-- The names of the entries that came are appended.
use Rattle.std.proofs.Common.{◌≡◌, ◌++◌, take}
use Rattle.agent_log.specs.LinesOfClocks.{name_words}
use Rattle.agent_log.proofs.log_words.push_names.Given as goal

abbrev pub invariant-loop-entry : goal.invariant-loop-entry
invariant-loop-entry l = l.words.items ≡ l.initial.words.items ++ name_words l.forest (take l.entry-index l.entries)
