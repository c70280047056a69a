-- One pause more, or the end of the wait.
use Rattle.std.proofs.Common.{◌≡◌, ◌∙◌, ℕ, [], ◌∷◌, Option, ap, refl, subst, sym, arith}
use Rattle.vault_asking.specs.Sending.{Lanes, lanes_of}
use Rattle.base_clock.specs.{Seen.AllMade, Seen.read_call, declared.reading.Reading.Reading}
use Rattle.agent_turns.specs.{code.Pauses.IsEnded, code.Pauses.IsPausedApart, declared.waiting.TheConstants.MOST_PAUSES}
use Rattle.agent_turns.specs.Held.{IsInStep, ServingSide, serving_side}
use Rattle.agent_turns.proofs.Waited.{ArePaused, ended_in_step, none_paused, one_paused, waited_less, waited_long}
use Rattle.agent_turns.proofs.serving.Serving.wait_apart.Goals as goal

pub loop-init : goal.loop-init
loop-init g c = record {
  paused = none_paused g.N.Neighbours.does c.args.wait.now.until c.args.self.now.agent c.args.wait.now.shown.agent (g.C.Clock.seen c.args.clock.now) (g.N.Neighbours.given c.args.neighbours.now) c.args.neighbours.now;
  until = refl;
  same = refl;
  width = refl;
  port = refl;
}

pub loop-preserved : goal.loop-preserved
loop-preserved g c =
    let mid : Lanes = lanes_of (g.L.Lanes.behind c.loop.lanes) (g.L.Lanes.out c.loop.lanes) (g.L.Lanes.seconds c.loop.lanes) in
    let new : Lanes = lanes_of (g.L.Lanes.behind c.pause.new.lanes) (g.L.Lanes.out c.pause.new.lanes) (g.L.Lanes.seconds c.pause.new.lanes) in
    let one = subst (λ (u : ℕ). IsPausedApart g.N.Neighbours.does u c.ok-reading.result c.in-Some.millis c.loop.wait.shown.agent c.pause.new.wait.shown.agent (serving_side c.loop.self mid) (serving_side c.pause.new.self new) (g.N.Neighbours.given c.loop.neighbours) (g.N.Neighbours.given c.pause.new.neighbours) c.loop.neighbours c.pause.new.neighbours) c.loop.invariant.until c.in-Some.ensures.pauses in
    record {
      paused = one_paused g.N.Neighbours.does c.args.wait.now.until c.loop.counter c.in-Some.millis c.ok-reading.result c.args.self.now.agent c.args.wait.now.shown.agent c.loop.wait.shown.agent c.pause.new.wait.shown.agent (serving_side c.loop.self mid) (serving_side c.pause.new.self new) _ _ (g.C.Clock.seen c.read.new.self) _ _ _ _ _ _ _ c.loop.invariant.paused (ap (λ (s : ServingSide). s.held.agent) c.loop.invariant.same) (subst (λ (r : Option Reading). AllMade (read_call r ∷ []) (g.C.Clock.seen c.loop.clock) (g.C.Clock.seen c.read.new.self)) (sym c.ok-reading.ensures.value) c.read.ensures.made) one c.wait.ensures.made;
      until = c.pause.ensures.until ∙ c.loop.invariant.until;
      same = c.in-Some.ensures.pauses.same ∙ c.loop.invariant.same;
      width = c.pause.ensures.width ∙ c.loop.invariant.width;
      port = c.pause.ensures.port ∙ c.loop.invariant.port;
    }

pub returns-clause-waited : goal.returns-clause-waited
returns-clause-waited g c =
    let all : c.loop.counter ≡ MOST_PAUSES = omega arith in
    let paused = subst (λ n. ArePaused g.N.Neighbours.does c.args.wait.now.until n c.args.self.now.agent c.args.wait.now.shown.agent c.loop.wait.shown.agent (g.C.Clock.seen c.args.clock.now) (g.C.Clock.seen c.loop.clock) (g.N.Neighbours.given c.args.neighbours.now) (g.N.Neighbours.given c.loop.neighbours) c.args.neighbours.now c.loop.neighbours) all c.loop.invariant.paused in
    waited_long g.N.Neighbours.does c.args.wait.now.until MOST_PAUSES _ _ _ _ _ _ _ _ _ _ paused c.loop.invariant.same

pub returns-in_default-clause-waited : goal.returns-in_default-clause-waited
returns-in_default-clause-waited g c =
    let mid : Lanes = lanes_of (g.L.Lanes.behind c.loop.lanes) (g.L.Lanes.out c.loop.lanes) (g.L.Lanes.seconds c.loop.lanes) in
    let new : Lanes = lanes_of (g.L.Lanes.behind c.pause.new.lanes) (g.L.Lanes.out c.pause.new.lanes) (g.L.Lanes.seconds c.pause.new.lanes) in
    let one = subst (λ (u : ℕ). IsEnded g.N.Neighbours.does u c.ok-reading.result c.loop.wait.shown.agent (serving_side c.loop.self mid) (serving_side c.pause.new.self new) (g.N.Neighbours.given c.loop.neighbours) (g.N.Neighbours.given c.pause.new.neighbours) c.loop.neighbours c.pause.new.neighbours) c.loop.invariant.until c.in_default.ensures.pauses in
    waited_less g.N.Neighbours.does c.args.wait.now.until MOST_PAUSES c.loop.counter c.ok-reading.result _ _ _ _ _ _ _ (g.C.Clock.seen c.read.new.self) _ _ _ _ _ _ c.loop.invariant.paused (omega arith) c.loop.invariant.same (subst (λ (r : Option Reading). AllMade (read_call r ∷ []) (g.C.Clock.seen c.loop.clock) (g.C.Clock.seen c.read.new.self)) (sym c.ok-reading.ensures.value) c.read.ensures.made) one

pub returns-in_default-clause-in_step : goal.returns-in_default-clause-in_step
returns-in_default-clause-in_step g c =
    let mid : Lanes = lanes_of (g.L.Lanes.behind c.loop.lanes) (g.L.Lanes.out c.loop.lanes) (g.L.Lanes.seconds c.loop.lanes) in
    let new : Lanes = lanes_of (g.L.Lanes.behind c.pause.new.lanes) (g.L.Lanes.out c.pause.new.lanes) (g.L.Lanes.seconds c.pause.new.lanes) in
    let width = g.L.Lanes.width c.args.lanes.now in
    let before = subst (λ (s : ServingSide). IsInStep width s.lanes.out s.held) (sym c.loop.invariant.same) c.requires.in_step in
    let one = c.in_default.ensures.pauses in
    let after = ended_in_step c.loop.wait.until width one.ending (serving_side c.loop.self mid) (serving_side c.pause.new.self new) one.is before in
    subst (λ n. IsInStep n (g.L.Lanes.out c.pause.new.lanes) c.pause.new.self) (sym (c.in_default.ensures.width ∙ c.loop.invariant.width)) after
