-- A wake-up passes the test of its force exactly where the pair that it names forces it.
use Rattle.plan_check.proofs.Answers.{forced_test}
use Rattle.plan_check.proofs.laws.forced_test_law.Goals as goal

pub returns : goal.returns
returns c = forced_test
