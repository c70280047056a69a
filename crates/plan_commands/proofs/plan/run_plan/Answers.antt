-- The exit, the text and the fault line of `plan` are what its text, once delivered, calls for.
use Rattle.plan_commands.specs.PlanRun.{PlanHalts, PlanTexts}
use Rattle.plan_commands.proofs.Delivered.{run_delivered}
use Rattle.plan_commands.proofs.plan.run_plan.Goals as goal

pub returns : goal.returns
returns g c = run_delivered (PlanTexts c.args.start) (PlanHalts c.args.start) _ c.plan_text.result c.deliver.result _ _ c.plan_text.ensures c.deliver.ensures
