-- No entries and a margin within the range are a forest, in which no name is found.
use Rattle.std.proofs.Common.{List, sym, subst, ap, ◌∙◌}
use Rattle.plan_forest.specs.{declared.entry.Entry.Entry, Forest.index_named, Push.IsForest}
use Rattle.plan_forest.proofs.{Names.none_at_bytes, Placed.empty_is_forest}
use Rattle.plan_forest.proofs.forest.Forest.with_margin.Goals as goal

pub invariant_of-result : goal.invariant_of-result
invariant_of-result c = (
  subst (λ (es : List Entry). IsForest (record { entries = es; margin = c.args.margin })) (sym c.new.ensures.items) (empty_is_forest c.args.margin c.requires.least c.requires.most),
  λ q. none_at_bytes c.new-2.result c.new-2.ensures.empty q ∙ ap (λ (es : List Entry). index_named es q) (sym c.new.ensures.items),
)
