-- A change is made, or there was none.
use Rattle.std.proofs.Common.{◌∷◌, List, Option, Some, None, [], ap, refl, subst, sym}
use Rattle.agent_standing.specs.Agent.{Agent}
use Rattle.agent_turns.specs.{Changes.AllGiven, Held.Held, Neighbours.Give, Neighbours.Settle, declared.change.AgentChange.AgentChange}
use Rattle.agent_turns.proofs.Called.{called_once, called_twice}
use Rattle.agent_turns.proofs.serving.Serving.make_change.Goals as goal

pub returns-clause-made : goal.returns-clause-made
returns-clause-made g c =
    let change = c.in-Some.change in
    let is_made = c.make-is_made.result in
    let given : AllGiven (change ∷ []) (g.N.Neighbours.given c.args.neighbours.now) (g.N.Neighbours.given c.settle.new.self) =
    subst (λ (x : Option (List AgentChange)). AllGiven (change ∷ []) (g.N.Neighbours.given c.args.neighbours.now) x) (sym c.settle.ensures.given) c.in-Some.ensures.given in (
      Some (record { change = change; is_made = is_made }),
      (
        c.make-is_made.ensures.made,
        (
          refl,
          (
            given,
            called_twice g.N.Neighbours.does (Give c.args.self.now.agent c.args.now (Some change)) (Settle c.make-is_made.new.self.agent is_made) c.args.neighbours.now c.change.new.self c.settle.new.self (subst (λ (a : Agent). g.N.Neighbours.does (Give a c.args.now (Some change)) c.args.neighbours.now c.change.new.self) (ap (λ (h : Held). h.agent) c.self.view_is) c.in-Some.ensures.does)
                (subst (λ (a : Agent). g.N.Neighbours.does (Settle a is_made) c.change.new.self c.settle.new.self) (ap (λ (h : Held). h.agent) c.self-2.view_is) c.settle.ensures.does),
          ),
        ),
      ),
    )

pub returns-in_default-clause-made : goal.returns-in_default-clause-made
returns-in_default-clause-made g c = (
  None,
  (
    refl,
    (
      refl,
      (
        c.in_default.ensures.given,
        called_once g.N.Neighbours.does (Give c.args.self.now.agent c.args.now None) c.args.neighbours.now c.change.new.self
            (subst (λ (a : Agent). g.N.Neighbours.does (Give a c.args.now None) c.args.neighbours.now c.change.new.self) (ap (λ (h : Held). h.agent) c.self.view_is) c.in_default.ensures.does),
      ),
    ),
  ),
)
