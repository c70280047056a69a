-- What was said, and the words of the faults to come, are those of all.
use Rattle.std.proofs.Common.{◌≡◌, ◌++◌, drop, map}
use Rattle.agent_words.specs.Reasons.{file_words}
use Rattle.agent_words.proofs.unserved.each_said.Given as goal

abbrev pub invariant-loop-place : goal.invariant-loop-place
invariant-loop-place l = l.whys.items ++ map (file_words l.demands l.forest) (drop l.place l.faults) ≡ map (file_words l.demands l.forest) l.faults
