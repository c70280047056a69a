-- What the certificate claims holds where the answer to its runs, or to its pair, is Yes.
use Rattle.std.proofs.Common.{◌≡◌, subst, sym}
use Rattle.plan_rule.specs.Runs.{all_wakes}
use Rattle.plan_check.specs.{declared.answer.Answer.TheVariants.Yes, Answer.IsBodyAnswer, Answer.IsWalkAnswer}
use Rattle.plan_check.proofs.Answers.{yes_of_body}
use Rattle.plan_check.proofs.checker.check.Goals as goal

pub returns-in_ok-check_runs-in-Runs-clause-yes : goal.returns-in_ok-check_runs-in-Runs-clause-yes
returns-in_ok-check_runs-in-Runs-clause-yes c = λ e.
    let g = c.args.forest.now in
    let cert = c.args.cert.now in
    let answer = c.in_ok-check_runs-in-Runs.field-0 in
    let yes' : answer ≡ Yes = cc in
    let walk = subst (λ rs. IsWalkAnswer g cert.start (all_wakes rs) answer) c.list.ensures c.in_ok-check_runs-in-Runs.ensures in
    let says = subst (λ b. IsBodyAnswer g cert.start b answer) (sym c.in-Runs.is) walk in
    yes_of_body g cert.start cert.body c.requires (subst (IsBodyAnswer g cert.start cert.body) yes' says)

pub returns-then-is_unkeepable-clause-yes : goal.returns-then-is_unkeepable-clause-yes
returns-then-is_unkeepable-clause-yes c = λ _.
    let g = c.args.forest.now in
    let cert = c.args.cert.now in
    let says = subst (λ b. IsBodyAnswer g cert.start b Yes) (sym c.in-Unkeepable.is) (c.is_unkeepable.ensures.0 c.if-is_unkeepable.true) in
    yes_of_body g cert.start cert.body c.requires says
