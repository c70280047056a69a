-- The words are there.
use Rattle.std.proofs.Common.{◌∙◌}
use Rattle.std.specs.Prelude.{codes}
use Rattle.base_log.specs.declared.level.Level.TheVariants.{Warning}
use Rattle.agent_system.specs.Descriptors.{few_text}
use Rattle.agent_system.proofs.Saying.{says_words}
use Rattle.agent_system.proofs.descriptors.warn.Goals as goal

pub returns-in-Ok : goal.returns-in-Ok
returns-in-Ok c =
    says_words c.args.now Warning (codes "descriptors") c.deref.result.now (few_text c.args.limit c.args.needed) c.args.desk.now c.hear_at_start.new.self (c.deref.ensures.value ∙ c.in-Ok.ensures) c.hear_at_start.ensures
