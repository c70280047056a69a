-- A renewal leads further than the margin in the plan.
use Rattle.std.proofs.Common.{◌∙◌, ◌<◌, subst, sym}
use Rattle.watch_machine.proofs.Opening.{plan_past}
use Rattle.watch_machine.proofs.round.step_in_plan.Goals as goal

pub returns-then-is_in_plan-clause-past : goal.returns-then-is_in_plan-clause-past
returns-then-is_in_plan-clause-past c =
    subst (λ n. c.args.margin < n) (sym c.lead.ensures) (plan_past c.args.margin c.args.track c.args.entry.now c.requires.margin (sym c.is_in_plan.ensures ∙ c.if-is_in_plan.true))
