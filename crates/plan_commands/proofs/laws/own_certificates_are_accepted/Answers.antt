-- A certificate that is printed, or that `plan` writes, gets nothing but Yes.
use Rattle.plan_commands.proofs.{Own.own_accepted, OwnText.own_text}
use Rattle.plan_commands.proofs.laws.own_certificates_are_accepted.Goals as goal

pub returns-clause-printed : goal.returns-clause-printed
returns-clause-printed c = own_accepted

pub returns-clause-written : goal.returns-clause-written
returns-clause-written c = own_text
