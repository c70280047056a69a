-- The time was handed in, and then a change was made.
use Rattle.std.proofs.Common.{◌≡◌, ◌∙◌, ◌||◌, Some, ap, is_ok, refl, subst, sym}
use Rattle.agent_standing.specs.Agent.{Agent}
use Rattle.vault_asking.specs.Sending.{Lanes, lanes_of}
use Rattle.agent_turns.specs.{Calls.heard_of_want, Neighbours.AllCalled, Neighbours.GoOn, Turns.turn_wait_by}
use Rattle.agent_turns.specs.Changes.{AllGiven, given_by, is_one_made}
use Rattle.agent_turns.specs.Held.{Held, IsInStep, serving_side}
use Rattle.agent_turns.proofs.{Changed.made_keeps, Staged.goes_keeps}
use Rattle.agent_turns.proofs.Turned.{due_known, turned, whole_turn}
use Rattle.agent_turns.proofs.serving.Serving.turn_at.Goals as goal

pub returns-clause-turn : goal.returns-clause-turn
returns-clause-turn g c =
    let old : Lanes = lanes_of (g.L.Lanes.behind c.args.lanes.now) (g.L.Lanes.out c.args.lanes.now) (g.L.Lanes.seconds c.args.lanes.now) in
    let mid : Lanes = lanes_of (g.L.Lanes.behind c.hand_in.new.lanes) (g.L.Lanes.out c.hand_in.new.lanes) (g.L.Lanes.seconds c.hand_in.new.lanes) in
    let new : Lanes = lanes_of (g.L.Lanes.behind c.make_change-is_changed.new.lanes) (g.L.Lanes.out c.make_change-is_changed.new.lanes) (g.L.Lanes.seconds c.make_change-is_changed.new.lanes) in
    let made = c.make_change-is_changed.ensures.made in
    let r = c.args.reading in
    let whole = is_ok c.hand_in.result in
    let busy = c.go_on-is_busy.result in
    let due = c.due-due.result in
    let rest = c.rest-rest.result in
    let held = c.make_change-is_changed.new.self in
    let told = subst (λ w. AllCalled g.N.Neighbours.does (heard_of_want w c.hand_in.new.self.agent) c.hand_in.new.neighbours c.tell_want.new.neighbours) c.is_ok-is_whole.ensures.value c.tell_want.ensures.heard in
    let when = due_known (g.L.Lanes.behind c.make_change-is_changed.new.lanes) due c.self-2.inside.until (g.L.Lanes.out c.make_change-is_changed.new.lanes) (serving_side held new) r c.due-due.ensures.known refl (ap (λ (h : Held). h.until) c.self-2.view_is) refl in
    let went = subst (λ (a : Agent). g.N.Neighbours.does (GoOn a r busy) c.tell_want.new.neighbours c.go_on-is_busy.new.self) (ap (λ (h : Held). h.agent) c.self.view_is) c.go_on-is_busy.ensures.does in
    let waits : c.wait_of.result ≡ turn_wait_by (is_one_made made.0 || busy) whole held due rest (Some r) =
    c.wait_of.ensures ∙ ap (λ b. turn_wait_by (b || busy) c.is_ok-is_whole.result held due rest (Some r)) made.1.1.0
    ∙ ap (λ w. turn_wait_by (is_one_made made.0 || busy) w held due rest (Some r)) c.is_ok-is_whole.ensures.value in (
      turned r whole made.0 busy due rest c.wait_of.result,
      (
        refl,
        (
          refl,
          (
            whole_turn g.N.Neighbours.does (g.L.Lanes.host_port c.args.lanes.now) r whole busy made.0 due rest c.wait_of.result (serving_side c.args.self.now old) (serving_side c.hand_in.new.self mid) (serving_side held new) c.args.neighbours.now c.hand_in.new.neighbours c.tell_want.new.neighbours
                c.go_on-is_busy.new.self c.make_change-is_changed.new.neighbours c.hand_in.ensures.goes made.1.0 when waits told went made.1.1.1.1 c.rest-rest.ensures,
            subst (λ a. AllGiven (given_by made.0) a (g.N.Neighbours.given c.make_change-is_changed.new.neighbours)) (c.go_on-is_busy.ensures.given ∙ c.tell_want.ensures.given ∙ c.hand_in.ensures.given) made.1.1.1.0,
          ),
        ),
      ),
    )

pub returns-clause-in_step : goal.returns-clause-in_step
returns-clause-in_step g c =
    let old : Lanes = lanes_of (g.L.Lanes.behind c.args.lanes.now) (g.L.Lanes.out c.args.lanes.now) (g.L.Lanes.seconds c.args.lanes.now) in
    let mid : Lanes = lanes_of (g.L.Lanes.behind c.hand_in.new.lanes) (g.L.Lanes.out c.hand_in.new.lanes) (g.L.Lanes.seconds c.hand_in.new.lanes) in
    let new : Lanes = lanes_of (g.L.Lanes.behind c.make_change-is_changed.new.lanes) (g.L.Lanes.out c.make_change-is_changed.new.lanes) (g.L.Lanes.seconds c.make_change-is_changed.new.lanes) in
    let width = g.L.Lanes.width c.args.lanes.now in
    let gone = goes_keeps (g.L.Lanes.host_port c.args.lanes.now) c.args.reading width (serving_side c.args.self.now old) (serving_side c.hand_in.new.self mid) (is_ok c.hand_in.result) c.hand_in.ensures.goes.is c.requires.in_step in
    let made = c.make_change-is_changed.ensures.made in
    let step = made_keeps width made.0 (serving_side c.hand_in.new.self mid) (serving_side c.make_change-is_changed.new.self new) made.1.0 gone in
    subst (λ w. IsInStep w (g.L.Lanes.out c.make_change-is_changed.new.lanes) c.make_change-is_changed.new.self) (sym (c.make_change-is_changed.ensures.width ∙ c.hand_in.ensures.width)) step
