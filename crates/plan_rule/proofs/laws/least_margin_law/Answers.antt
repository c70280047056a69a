-- With a smaller margin the least and latest moments are no more, and each comes no earlier.
use Rattle.plan_rule.proofs.Margin.{least_margin}
use Rattle.plan_rule.proofs.laws.least_margin_law.Goals as goal

pub returns : goal.returns
returns c = least_margin
