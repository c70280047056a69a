-- One turn more is made.
use Rattle.std.proofs.Common.{◌∙◌, ◌++◌, ◌∷◌, [], refl, subst}
use Rattle.vault_asking.specs.Sending.{Lanes, lanes_of}
use Rattle.base_clock.proofs.Joined.{none_law}
use Rattle.agent_turns.specs.{Calls.calls_in, Held.serving_side, Neighbours.WithCalls, Turns.IsServingTurn}
use Rattle.agent_turns.proofs.{Called.turns_on, Turned.given_none}
use Rattle.agent_turns.proofs.Run.{calls_on, changes_run, one_more}
use Rattle.agent_turns.proofs.serving.Serving.run.Goals as goal

pub loop-init : goal.loop-init
loop-init g c = record {
  turns = ([], (refl, (record { is = refl; called = refl }, (none_law (g.C.Clock.seen c.args.clock.now), given_none (g.N.Neighbours.given c.args.neighbours.now)))));
  in_step = c.requires.in_step;
  width = refl;
  port = refl;
}

pub loop-preserved : goal.loop-preserved
loop-preserved g c =
    let old : Lanes = lanes_of (g.L.Lanes.behind c.args.lanes.now) (g.L.Lanes.out c.args.lanes.now) (g.L.Lanes.seconds c.args.lanes.now) in
    let mid : Lanes = lanes_of (g.L.Lanes.behind c.loop.lanes) (g.L.Lanes.out c.loop.lanes) (g.L.Lanes.seconds c.loop.lanes) in
    let new : Lanes = lanes_of (g.L.Lanes.behind c.turn.new.lanes) (g.L.Lanes.out c.turn.new.lanes) (g.L.Lanes.seconds c.turn.new.lanes) in
    let port = g.L.Lanes.host_port c.args.lanes.now in
    let all = c.loop.invariant.turns in
    let one = c.turn.ensures.turn in
    let turn = subst (λ p. WithCalls g.N.Neighbours.does (IsServingTurn p (serving_side c.loop.self mid) one.0 (serving_side c.turn.new.self new)) (calls_in p (serving_side c.loop.self mid) one.0 (serving_side c.turn.new.self new)) c.loop.neighbours c.turn.new.neighbours) c.loop.invariant.port one.1.0 in
    record {
      turns = (
        all.0 ++ one.0 ∷ [],
        (
          one_more all.0 one.0 c.loop.counter all.1.0,
          (
            turns_on g.N.Neighbours.does port all.0 one.0 (serving_side c.args.self.now old) (serving_side c.loop.self mid) (serving_side c.turn.new.self new) c.args.neighbours.now c.loop.neighbours c.turn.new.neighbours all.1.1.0 turn,
            (
              calls_on all.0 one.0 (g.C.Clock.seen c.args.clock.now) (g.C.Clock.seen c.loop.clock) (g.C.Clock.seen c.turn.new.clock) all.1.1.1.0 one.1.1.0,
              changes_run all.0 one.0 (g.N.Neighbours.given c.args.neighbours.now) (g.N.Neighbours.given c.loop.neighbours) (g.N.Neighbours.given c.turn.new.neighbours) all.1.1.1.1 one.1.1.1,
            ),
          ),
        ),
      );
      in_step = c.turn.ensures.in_step;
      width = c.turn.ensures.width ∙ c.loop.invariant.width;
      port = c.turn.ensures.port ∙ c.loop.invariant.port;
    }
