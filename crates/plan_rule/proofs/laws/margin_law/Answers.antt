-- Where some plan keeps, one with the same moments keeps with each smaller margin.
use Rattle.plan_rule.proofs.Margin.{margin}
use Rattle.plan_rule.proofs.laws.margin_law.Goals as goal

pub returns : goal.returns
returns c = margin
