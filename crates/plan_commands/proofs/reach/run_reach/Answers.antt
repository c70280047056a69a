-- The exit, the text and the fault line of `reach` are what its text, once delivered, calls for.
use Rattle.plan_commands.specs.{ReachRun.ReachTexts, Running.NoHalts}
use Rattle.plan_commands.proofs.Delivered.{run_delivered}
use Rattle.plan_commands.proofs.reach.run_reach.Goals as goal

pub returns : goal.returns
returns g c = run_delivered (ReachTexts c.args.start c.args.dates) NoHalts _ c.reach_text.result c.deliver.result _ _ c.reach_text.ensures c.deliver.ensures
