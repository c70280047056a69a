-- The law, as it is proved of the definitions.
use Rattle.broker_alike.proofs.{Dated.step_dated, Kept.renewals_both, Looks.looks_both}
use Rattle.broker_alike.proofs.laws.secrets_change_no_step.Goals as goal

pub returns-clause-renewals : goal.returns-clause-renewals
returns-clause-renewals c g cs ds ts one two port other t i h l m within kept alike = renewals_both g cs ds ts one two port other t i h l m within kept alike

pub returns-clause-lookups : goal.returns-clause-lookups
returns-clause-lookups c g cs ds ts one two port other t i l m within alike = looks_both g cs ds ts ts one two port other t i l m within alike

pub returns-clause-dated : goal.returns-clause-dated
returns-clause-dated c = step_dated
