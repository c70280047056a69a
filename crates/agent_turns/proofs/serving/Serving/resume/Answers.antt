-- What was begun stays in step over the ends that are handed in.
use Rattle.std.proofs.Common.{subst, sym}
use Rattle.agent_turns.specs.Held.{Held, IsInStep}
use Rattle.agent_turns.proofs.Resumed.{all_resumed_in_step}
use Rattle.agent_turns.proofs.serving.Serving.resume.Goals as goal

pub returns-clause-in_step : goal.returns-clause-in_step
returns-clause-in_step g c =
    let width = g.L.Lanes.width c.args.lanes.now in
    let out = g.L.Lanes.out c.args.lanes.now in
    let new = c.hand_all_known.new.self in
    subst (λ (h : Held). IsInStep width out h) (sym c.hand_all_known.ensures.rest)
    (all_resumed_in_step width out c.args.known.now c.in_ok-serving.serving new.agent c.hand_all_known.ensures.resumed c.in_ok-serving.ensures.in_step)
