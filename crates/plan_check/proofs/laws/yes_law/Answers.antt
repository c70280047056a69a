-- A certificate that gets Yes has the least and latest moments, or a pair for which no plan keeps.
use Rattle.plan_check.proofs.Answers.{yes_holds}
use Rattle.plan_check.proofs.laws.yes_law.Goals as goal

pub returns : goal.returns
returns c = yes_holds
