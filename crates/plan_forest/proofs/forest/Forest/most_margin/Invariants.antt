-- The margin so far is the greatest that the entries before the index allow.
use Rattle.plan_forest.proofs.Margins.{IsMostOf}
use Rattle.plan_forest.proofs.forest.Forest.most_margin.Given as goal

abbrev pub invariant-loop-index : goal.invariant-loop-index
invariant-loop-index l = IsMostOf l.self.entries l.index l.most
