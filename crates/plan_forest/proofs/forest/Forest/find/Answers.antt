-- The index that is found for a name is that of an entry.
use Rattle.std.proofs.Common.{ap, ◌∙◌}
use Rattle.plan_forest.specs.Forest.{Forest, index_named}
use Rattle.plan_forest.proofs.Entries.{index_within}
use Rattle.plan_forest.proofs.forest.Forest.find.Goals as goal

pub returns-clause-within : goal.returns-clause-within
returns-clause-within c =
    index_within c.args.self.now.entries c.args.name.now c.copied.result
    (c.copied.ensures ∙ c.get.ensures.value ∙ c.self.invariant.1 c.args.name.now ∙ ap (λ (g : Forest). index_named g.entries c.args.name.now) c.self.view_is)
