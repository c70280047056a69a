-- A run that was read has no more wake-ups than the limit.
use Rattle.std.proofs.Common.{sym, ◌∙◌}
use Rattle.plan_certificate.proofs.Turns.{run_is_small}
use Rattle.plan_certificate.proofs.run_line.run_of.Goals as goal

pub returns-clause-within : goal.returns-clause-within
returns-clause-within c = run_is_small c.args.before c.in_ok-first-2.first c.in_ok-step.step c.in_ok-count.count (sym c.is_run.ensures ∙ c.if-not-is_run.false)
