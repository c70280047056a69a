-- The exit, the text and the fault line of `check` are what its text, once delivered, calls for.
use Rattle.plan_commands.specs.{CheckRun.CheckTexts, Running.NoHalts}
use Rattle.plan_commands.proofs.Delivered.{run_delivered}
use Rattle.plan_commands.proofs.check.run_check.Goals as goal

pub returns : goal.returns
returns g c = run_delivered (CheckTexts c.args.asked c.args.certificate.now) NoHalts _ c.check_text.result c.deliver.result _ _ c.check_text.ensures c.deliver.ensures
