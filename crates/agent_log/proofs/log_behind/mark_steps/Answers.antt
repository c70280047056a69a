-- One request more is marked, if the agent steps in by it.
use Rattle.std.proofs.Common.{◌≡◌, ◌∙◌, ◌+◌, [], ap, arith, drop, sym}
use Rattle.std.proofs.lemmas.{Grind.common_steps, List.drop_more}
use Rattle.agent_log.specs.LinesBehind.{with_steps}
use Rattle.agent_log.proofs.log_behind.mark_steps.Goals as goal

pub loop-request-preserved : goal.loop-request-preserved
loop-request-preserved c =
    let rs = c.args.requests.now in
    let at = c.loop-request.request-index in
    ap (λ ms. with_steps c.args.watch.now c.args.lead (drop (at + 1) rs) ms) c.mark_step.ensures ∙ sym (ap (λ xs. with_steps c.args.watch.now c.args.lead xs c.loop-request.marks) (drop_more rs at _ c.loop-request-test.true)) ∙ c.loop-request.invariant

pub returns : goal.returns
returns c =
    let e : drop c.loop-request.request-index c.args.requests.now ≡ [] = grind (arith, common_steps) in
    ap (λ xs. with_steps c.args.watch.now c.args.lead xs c.loop-request.marks) (sym e) ∙ c.loop-request.invariant
