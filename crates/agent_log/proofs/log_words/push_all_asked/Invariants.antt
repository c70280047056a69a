-- The names of those of the requests that came are appended.
use Rattle.std.proofs.Common.{◌≡◌, ◌++◌, take}
use Rattle.agent_log.specs.LinesOfClocks.{asked_words}
use Rattle.agent_log.proofs.log_words.push_all_asked.Given as goal

abbrev pub invariant-loop-request : goal.invariant-loop-request
invariant-loop-request l = l.words.items ≡ l.initial.words.items ++ asked_words l.forest l.operation (take l.request-index l.requests)
