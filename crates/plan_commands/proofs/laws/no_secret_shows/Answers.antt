-- Of inventories with one forest, each command writes one text with one exit.
use Rattle.plan_commands.proofs.{Dated.one_plan_in_dates, Margins.one_margin_text, Reaching.one_reach_text}
use Rattle.plan_commands.proofs.OneText.{one_check_text, one_ends_text, one_plan_text}
use Rattle.plan_commands.proofs.laws.no_secret_shows.Goals as goal

pub returns-clause-ends : goal.returns-clause-ends
returns-clause-ends c = one_ends_text

pub returns-clause-plan : goal.returns-clause-plan
returns-clause-plan c = one_plan_text

pub returns-clause-plan_dates : goal.returns-clause-plan_dates
returns-clause-plan_dates c = one_plan_in_dates

pub returns-clause-margin : goal.returns-clause-margin
returns-clause-margin c = one_margin_text

pub returns-clause-reach : goal.returns-clause-reach
returns-clause-reach c = one_reach_text

pub returns-clause-check : goal.returns-clause-check
returns-clause-check c = one_check_text
