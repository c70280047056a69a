-- The texts that came are added.
use Rattle.std.proofs.Common.{◌≡◌, ◌++◌, map}
use Rattle.agent_system.specs.Saying.{said_as}
use Rattle.agent_system.proofs.said.push_each.Given as goal

abbrev pub invariant-loop-text : goal.invariant-loop-text
invariant-loop-text l = l.said.items ≡ l.fn.said.items ++ map (said_as l.level l.about) l.yielded
