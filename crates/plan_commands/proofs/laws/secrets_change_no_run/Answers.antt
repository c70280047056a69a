-- Inventories that differ in secrets alone have runs that write fronts of one text, with one exit.
use Rattle.plan_commands.proofs.SameRun.{check_secrecy, ends_secrecy, margin_secrecy, plan_dates_secrecy, plan_secrecy, reach_secrecy}
use Rattle.plan_commands.proofs.laws.secrets_change_no_run.Goals as goal

pub returns-clause-ends : goal.returns-clause-ends
returns-clause-ends c = ends_secrecy

pub returns-clause-plan : goal.returns-clause-plan
returns-clause-plan c = plan_secrecy

pub returns-clause-plan_dates : goal.returns-clause-plan_dates
returns-clause-plan_dates c = plan_dates_secrecy

pub returns-clause-margin : goal.returns-clause-margin
returns-clause-margin c = margin_secrecy

pub returns-clause-reach : goal.returns-clause-reach
returns-clause-reach c = reach_secrecy

pub returns-clause-check : goal.returns-clause-check
returns-clause-check c = check_secrecy
