-- The exit, the text and the fault line of `margin` are what its text, once delivered, calls for.
use Rattle.plan_commands.specs.MarginRun.{MarginHalts, MarginTexts}
use Rattle.plan_commands.proofs.Delivered.{run_delivered}
use Rattle.plan_commands.proofs.margin.run_margin.Goals as goal

pub returns : goal.returns
returns g c = run_delivered (MarginTexts c.args.query.now) (MarginHalts c.args.query.now) _ c.margin_text.result c.deliver.result _ _ c.margin_text.ensures c.deliver.ensures
