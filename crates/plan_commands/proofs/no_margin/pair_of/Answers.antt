-- An entry that falls short is half of a pair that no plan keeps; without one some plan keeps.
use Rattle.plan_commands.proofs.Margins.{pair_matched}
use Rattle.plan_commands.proofs.no_margin.pair_of.Goals as goal

pub returns-in-Ok-clause-pair : goal.returns-in-Ok-clause-pair
returns-in-Ok-clause-pair c = pair_matched c.args.forest.now c.args.start c.shortfall.result c.len-entries.ensures.sound c.shortfall.ensures.pair c.shortfall.ensures.keeps
