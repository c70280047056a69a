-- The words are there.
use Rattle.std.proofs.Common.{◌∙◌}
use Rattle.std.specs.Prelude.{codes, decimal}
use Rattle.base_log.specs.declared.level.Level.TheVariants.{Info}
use Rattle.agent_system.proofs.Saying.{says_words}
use Rattle.agent_system.proofs.said.say_behind.Goals as goal

pub returns-in-Ok : goal.returns-in-Ok
returns-in-Ok c = says_words c.args.now Info (codes "behind") c.deref.result.now (decimal c.args.margin) c.args.desk.now c.hear_at_start.new.self (c.deref.ensures.value ∙ c.in-Ok.ensures) c.hear_at_start.ensures
