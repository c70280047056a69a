-- One answer more is handed in; and then none is left, or memory was wanting for one.
use Rattle.std.proofs.Common.{◌∙◌, ap, arith, is_ok, length, refl}
use Rattle.agent_turns.specs.Held.{Held}
use Rattle.agent_turns.proofs.{Called.not_ok, InStep.in_step_taken}
use Rattle.agent_turns.proofs.Taken.{none_left, none_taken, some_left, taken_on}
use Rattle.agent_turns.proofs.serving.Serving.take_all.Goals as goal

pub loop-init : goal.loop-init
loop-init g c = record { taken = none_taken g.N.Neighbours.does c.args.self.now c.args.neighbours.now; left = omega arith; given = refl }

pub take_first-requires-clause-in_step : goal.take_first-requires-clause-in_step
take_first-requires-clause-in_step g c =
    let width = c.requires.in_step.0 in
    let out = c.requires.in_step.1.0 in
    (width, (out, in_step_taken width out c.args.self.now c.loop.self c.loop.invariant.taken.is c.requires.in_step.1.1))

pub loop-preserved : goal.loop-preserved
loop-preserved g c =
    let first = c.in_ok-take_first.ensures.taken in
    let fewer = ap length first.is.first in
    let left = c.loop.invariant.left in
    record {
      taken = taken_on g.N.Neighbours.does c.args.self.now c.loop.self c.take_first.new.self c.args.neighbours.now c.loop.neighbours c.take_first.new.neighbours c.loop.invariant.taken first;
      left = omega (arith, fewer, left);
      given = c.in_ok-take_first.ensures.given ∙ c.loop.invariant.given;
    }

pub returns-clause-takes : goal.returns-clause-takes
returns-clause-takes g c =
    let left = c.loop.invariant.left in
    let same = ap (λ (h : Held). length h.pending) c.self.view_is in
    none_left g.N.Neighbours.does c.args.self.now c.loop.self c.args.neighbours.now c.loop.neighbours (omega (arith, left, same)) c.loop.invariant.taken

pub returns-in_err-take_first-clause-takes : goal.returns-in_err-take_first-clause-takes
returns-in_err-take_first-clause-takes g c =
    let left = c.loop.invariant.left in
    let same = ap (λ (h : Held). length h.pending) c.self.view_is in
    some_left g.N.Neighbours.does c.args.self.now c.loop.self c.take_first.new.self (is_ok c.from_residual.result) c.args.neighbours.now c.loop.neighbours c.take_first.new.neighbours (not_ok c.from_residual.result c.from_residual.ensures.0) (omega (arith, left, same))
    c.in_err-take_first.ensures.kept c.in_err-take_first.ensures.unheard c.loop.invariant.taken
