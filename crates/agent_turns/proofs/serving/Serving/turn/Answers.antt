-- Where the clocks could not be read nothing is handed in.
use Rattle.std.proofs.Common.{ℕ, [], ◌∷◌, None, Option, Some, subst, sym}
use Rattle.vault_asking.specs.Sending.{Lanes, lanes_of}
use Rattle.base_clock.specs.{Seen.AllMade, Seen.read_call, declared.reading.Reading.Reading, declared.call.ClockCall.TheVariants.Wait}
use Rattle.base_clock.proofs.Joined.{joined_law}
use Rattle.agent_turns.specs.Held.{serving_side}
use Rattle.agent_turns.proofs.Turned.{given_none, unread, unread_turn}
use Rattle.agent_turns.proofs.serving.Serving.turn.Goals as goal

pub returns-in-Err-clause-turn : goal.returns-in-Err-clause-turn
returns-in-Err-clause-turn g c =
    let lanes : Lanes = lanes_of (g.L.Lanes.behind c.args.lanes.now) (g.L.Lanes.out c.args.lanes.now) (g.L.Lanes.seconds c.args.lanes.now) in (
      unread,
      (
        unread_turn g.N.Neighbours.does (g.L.Lanes.host_port c.args.lanes.now) (serving_side c.args.self.now lanes) c.args.neighbours.now,
        (
          joined_law (read_call None ∷ []) (Wait 100 ∷ []) (g.C.Clock.seen c.args.clock.now) (g.C.Clock.seen c.read.new.self) (g.C.Clock.seen c.wait-in-Err.new.self) c.in-Err.ensures.made c.wait-in-Err.ensures.made,
          given_none (g.N.Neighbours.given c.args.neighbours.now),
        ),
      ),
    )

pub returns-in-Ok-clause-turn : goal.returns-in-Ok-clause-turn
returns-in-Ok-clause-turn g c =
    let one = c.turn_at-millis.ensures.turn in
    let old = g.C.Clock.seen c.args.clock.now in
    let new = g.C.Clock.seen c.wait.new.self in
    let r = c.in-Ok.reading in
    let made = joined_law (read_call (Some r) ∷ []) (Wait c.turn_at-millis.result ∷ []) old (g.C.Clock.seen c.read.new.self) new c.in-Ok.ensures.made c.wait.ensures.made in
    let waited = subst (λ (m : ℕ). AllMade (read_call (Some r) ∷ Wait m ∷ []) old new) (sym one.1.1.0) made in
    (one.0, (one.1.1.1.0, (subst (λ (x : Option Reading). AllMade (read_call x ∷ Wait one.0.millis ∷ []) old new) (sym one.1.0) waited, one.1.1.1.1)))
