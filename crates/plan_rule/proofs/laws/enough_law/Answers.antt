-- Where any requests keep at given moments, the Asks at those moments keep too.
use Rattle.plan_rule.proofs.Enough.{enough}
use Rattle.plan_rule.proofs.laws.enough_law.Goals as goal

pub returns : goal.returns
returns c = enough
