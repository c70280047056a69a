-- No plan keeps exactly where some entry is short.
use Rattle.plan_commands.proofs.Short.{short_law}
use Rattle.plan_commands.proofs.laws.short_law.Goals as goal

pub returns : goal.returns
returns c = short_law
