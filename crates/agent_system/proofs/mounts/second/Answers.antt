-- The word behind the first one.
use Rattle.std.proofs.Common.{◌∙◌}
use Rattle.agent_system.proofs.Mounted.{second_word}
use Rattle.agent_system.proofs.mounts.second.Goals as goal

pub returns-in-Some : goal.returns-in-Some
returns-in-Some c = c.keyword.ensures ∙ second_word c.args.line.now c.in-Some.field-0-0.now c.in-Some.rest.now c.in-Some.ensures
