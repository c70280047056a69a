-- Where nothing is to be said, all is said.
use Rattle.std.proofs.Common.{◌∙◌, sym}
use Rattle.std.proofs.lemmas.{Bool.eqb-true, List.nil_from_length}
use Rattle.agent_standing.proofs.Saying.{nothing_said}
use Rattle.agent_standing.proofs.shorts.say.Goals as goal

pub returns-else-not-is_empty-clause-value : goal.returns-else-not-is_empty-clause-value
returns-else-not-is_empty-clause-value c =
    nothing_said c.args.watch.now c.args.inventory.now.terms c.args.standings.now (sym c.requires.shorts ∙ nil_from_length c.args.shorts.now (eqb-true _ _ (sym c.if-not-is_empty.ensures)))
