-- At most one answer to a certificate is right.
use Rattle.plan_check.proofs.Answers.{one_answer}
use Rattle.plan_check.proofs.laws.answer_law.Goals as goal

pub returns : goal.returns
returns c = one_answer
