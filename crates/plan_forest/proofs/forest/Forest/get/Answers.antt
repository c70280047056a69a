-- The list that the forest holds has its entry at each index.
use Rattle.std.proofs.Common.{◌<◌, length, sym, subst, ap, ◌∙◌}
use Rattle.plan_forest.specs.Forest.{Forest, entry_at}
use Rattle.plan_forest.proofs.Entries.{entry_read}
use Rattle.plan_forest.proofs.forest.Forest.get.Goals as goal

pub returns-clause-value : goal.returns-clause-value
returns-clause-value c =
    let within : c.args.index < length c.self.inside.entries.items = subst (λ (g : Forest). c.args.index < length g.entries) (sym c.self.view_is) c.requires in
    entry_read c.self.inside.entries.items c.args.index c.index.result.now within c.index.ensures ∙ ap (λ (g : Forest). entry_at g.entries c.args.index) c.self.view_is
