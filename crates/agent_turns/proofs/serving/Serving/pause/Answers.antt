-- A pause, or the end of the wait.
use Rattle.std.proofs.Common.{◌∙◌, ◌||◌, not, List, [], None, Option, Some, ap, subst, sym}
use Rattle.agent_standing.specs.Agent.{Agent}
use Rattle.vault_asking.specs.Sending.{Lanes, lanes_of}
use Rattle.base_clock.specs.declared.reading.Reading.{Reading}
use Rattle.agent_turns.specs.{Apart.pause_by, Changes.AllGiven, Held.ServingSide, Held.serving_side, Neighbours.Give, Neighbours.GoOn, code.Pauses.IsEnded, code.Pauses.IsPausedApart, declared.change.AgentChange.AgentChange, declared.waiting.Wait.Wait}
use Rattle.agent_turns.proofs.Waited.{ended_changed, ended_over, given_once, paused_with, paused_without}
use Rattle.agent_turns.proofs.serving.Serving.pause.Goals as goal

pub returns-then-reading-wait-clause-pauses : goal.returns-then-reading-wait-clause-pauses
returns-then-reading-wait-clause-pauses g c =
    let lanes : Lanes = lanes_of (g.L.Lanes.behind c.args.lanes.now) (g.L.Lanes.out c.args.lanes.now) (g.L.Lanes.seconds c.args.lanes.now) in
    let s : ServingSide = serving_side c.args.self.now lanes in
    subst (λ (r : Option Reading). IsEnded g.N.Neighbours.does c.args.wait.now.until r c.args.wait.now.shown.agent s s (g.N.Neighbours.given c.args.neighbours.now) (g.N.Neighbours.given c.args.neighbours.now) c.args.neighbours.now c.args.neighbours.now) (sym c.in_ok-reading.was)
    (ended_over g.N.Neighbours.does c.args.wait.now.until c.in_ok-reading.reading c.args.wait.now.shown.agent s (g.N.Neighbours.given c.args.neighbours.now) c.args.neighbours.now c.if-reading-wait.true)

pub returns-in_default-clause-pauses : goal.returns-in_default-clause-pauses
returns-in_default-clause-pauses g c =
    let lanes : Lanes = lanes_of (g.L.Lanes.behind c.args.lanes.now) (g.L.Lanes.out c.args.lanes.now) (g.L.Lanes.seconds c.args.lanes.now) in
    let s : ServingSide = serving_side c.args.self.now lanes in
    subst (λ (r : Option Reading). IsPausedApart g.N.Neighbours.does c.args.wait.now.until r c.pause_by.result c.args.wait.now.shown.agent c.take.new.self.agent s s (g.N.Neighbours.given c.args.neighbours.now) (g.N.Neighbours.given c.change.new.self) c.args.neighbours.now c.change.new.self) (sym c.in_ok-reading.was)
    (paused_without g.N.Neighbours.does c.args.wait.now.until c.pause_by.result c.go_on-is_busy.result c.in_ok-reading.reading c.args.wait.now.shown.agent c.take.new.self.agent s _ _ _ c.go_on-is_busy.new.self _ c.if-reading-wait.false (c.pause_by.ensures ∙ ap (λ (w : Wait). pause_by c.go_on-is_busy.result w.until c.in_ok-reading.reading) c.wait.view_is) c.take.ensures.turned (subst (λ (a : Agent). g.N.Neighbours.does (GoOn a c.in_ok-reading.reading c.go_on-is_busy.result) c.args.neighbours.now c.go_on-is_busy.new.self) (ap (λ (w : Wait). w.shown.agent) c.wait.view_is) c.go_on-is_busy.ensures.does) (subst (λ (a : Agent). g.N.Neighbours.does (Give a c.in_ok-reading.reading None) c.go_on-is_busy.new.self c.change.new.self) (ap (λ (w : Wait). w.shown.agent) c.wait.view_is) c.in_default.ensures.does)
    (subst (λ (x : Option (List AgentChange)). AllGiven [] x (g.N.Neighbours.given c.change.new.self)) c.go_on-is_busy.ensures.given c.in_default.ensures.given))

pub returns-then-goes_on-clause-pauses : goal.returns-then-goes_on-clause-pauses
returns-then-goes_on-clause-pauses g c =
    let old : Lanes = lanes_of (g.L.Lanes.behind c.args.lanes.now) (g.L.Lanes.out c.args.lanes.now) (g.L.Lanes.seconds c.args.lanes.now) in
    let made = c.make_shown-is_made in
    let new : Lanes = lanes_of (g.L.Lanes.behind made.new.lanes) (g.L.Lanes.out made.new.lanes) (g.L.Lanes.seconds made.new.lanes) in
    let s : ServingSide = serving_side c.args.self.now old in
    let t : ServingSide = serving_side made.new.self new in
    let on = sym c.if-goes_on.true ∙ c.goes_on.ensures ∙ ap (λ k. k || not made.result) c.is_kept-is_kept.ensures in
    subst (λ (r : Option Reading). IsPausedApart g.N.Neighbours.does c.args.wait.now.until r c.pause_by-then-goes_on.result c.args.wait.now.shown.agent c.take.new.self.agent s t (g.N.Neighbours.given c.args.neighbours.now) (g.N.Neighbours.given made.new.neighbours) c.args.neighbours.now made.new.neighbours) (sym c.in_ok-reading.was)
    (paused_with g.N.Neighbours.does c.args.wait.now.until c.pause_by-then-goes_on.result c.go_on-is_busy.result c.in_ok-reading.reading c.args.wait.now.shown.agent c.take.new.self.agent c.in-Some.change made.result s t _ _ _ c.go_on-is_busy.new.self c.change.new.self _ c.if-reading-wait.false c.pause_by-then-goes_on.ensures c.take.ensures.turned made.ensures.made on (subst (λ (a : Agent). g.N.Neighbours.does (GoOn a c.in_ok-reading.reading c.go_on-is_busy.result) c.args.neighbours.now c.go_on-is_busy.new.self) (ap (λ (w : Wait). w.shown.agent) c.wait.view_is) c.go_on-is_busy.ensures.does) (subst (λ (a : Agent). g.N.Neighbours.does (Give a c.in_ok-reading.reading (Some c.in-Some.change)) c.go_on-is_busy.new.self c.change.new.self) (ap (λ (w : Wait). w.shown.agent) c.wait.view_is) c.in-Some.ensures.does) made.ensures.settled
    (given_once c.in-Some.change _ _ _ _ c.go_on-is_busy.ensures.given c.in-Some.ensures.given made.ensures.given))

pub returns-else-goes_on-clause-pauses : goal.returns-else-goes_on-clause-pauses
returns-else-goes_on-clause-pauses g c =
    let old : Lanes = lanes_of (g.L.Lanes.behind c.args.lanes.now) (g.L.Lanes.out c.args.lanes.now) (g.L.Lanes.seconds c.args.lanes.now) in
    let made = c.make_shown-is_made in
    let new : Lanes = lanes_of (g.L.Lanes.behind made.new.lanes) (g.L.Lanes.out made.new.lanes) (g.L.Lanes.seconds made.new.lanes) in
    let s : ServingSide = serving_side c.args.self.now old in
    let t : ServingSide = serving_side made.new.self new in
    let on = sym c.if-goes_on.false ∙ c.goes_on.ensures ∙ ap (λ k. k || not made.result) c.is_kept-is_kept.ensures in
    subst (λ (r : Option Reading). IsEnded g.N.Neighbours.does c.args.wait.now.until r c.args.wait.now.shown.agent s t (g.N.Neighbours.given c.args.neighbours.now) (g.N.Neighbours.given made.new.neighbours) c.args.neighbours.now made.new.neighbours) (sym c.in_ok-reading.was)
    (ended_changed g.N.Neighbours.does c.args.wait.now.until c.go_on-is_busy.result c.in_ok-reading.reading c.args.wait.now.shown.agent c.take.new.self.agent c.in-Some.change made.result s t _ _ _ c.go_on-is_busy.new.self c.change.new.self _ c.if-reading-wait.false c.take.ensures.turned made.ensures.made on (subst (λ (a : Agent). g.N.Neighbours.does (GoOn a c.in_ok-reading.reading c.go_on-is_busy.result) c.args.neighbours.now c.go_on-is_busy.new.self) (ap (λ (w : Wait). w.shown.agent) c.wait.view_is) c.go_on-is_busy.ensures.does) (subst (λ (a : Agent). g.N.Neighbours.does (Give a c.in_ok-reading.reading (Some c.in-Some.change)) c.go_on-is_busy.new.self c.change.new.self) (ap (λ (w : Wait). w.shown.agent) c.wait.view_is) c.in-Some.ensures.does) made.ensures.settled
    (given_once c.in-Some.change _ _ _ _ c.go_on-is_busy.ensures.given c.in-Some.ensures.given made.ensures.given))
