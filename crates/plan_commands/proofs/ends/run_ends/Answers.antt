-- The exit, the text and the fault line of `ends` are what its text, once delivered, calls for.
use Rattle.plan_commands.specs.EndsRun.{EndsHalts, EndsTexts}
use Rattle.plan_commands.proofs.Delivered.{run_delivered}
use Rattle.plan_commands.proofs.ends.run_ends.Goals as goal

pub returns : goal.returns
returns g c = run_delivered (EndsTexts c.args.start c.args.moments.now) (EndsHalts c.args.start c.args.moments.now) _ c.ends_text.result c.deliver.result _ _ c.ends_text.ensures c.deliver.ensures
