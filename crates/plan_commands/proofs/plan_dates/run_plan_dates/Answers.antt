-- The exit, the text and the fault line of `plan --dates` are what its text, once delivered, calls for.
use Rattle.plan_commands.specs.{PlanDates.PlanDatesTexts, PlanRun.PlanHalts}
use Rattle.plan_commands.proofs.Delivered.{run_delivered}
use Rattle.plan_commands.proofs.plan_dates.run_plan_dates.Goals as goal

pub returns : goal.returns
returns g c = run_delivered (PlanDatesTexts c.args.start) (PlanHalts c.args.start) _ c.plan_dates_text.result c.deliver.result _ _ c.plan_dates_text.ensures c.deliver.ensures
