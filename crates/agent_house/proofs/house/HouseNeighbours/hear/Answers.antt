-- It says what it hears of.
use Rattle.std.proofs.Common.{◌≡◌, ℕ, inl, inr, ap, refl, subst, sym}
use Rattle.std.specs.Prelude.{option_map}
use Rattle.agent_standing.specs.Agent.{Agent}
use Rattle.vault_asking.specs.declared.told.Said.{Said}
use Rattle.agent_turns.specs.Neighbours.{thing_of}
use Rattle.watch_machine.specs.{declared.event.Operation.Operation, declared.notes.Notes.Notes}
use Rattle.agent_log.specs.LogDesk.{Desk, HearsAnswer}
use Rattle.agent_house.specs.{Doing.HearsOf, Ends.HearsEnd, Ends.after_answer, declared.house.House.House}
use Rattle.agent_house.proofs.house.HouseNeighbours.hear.Goals as goal

pub returns-in-Clocked-clause-does : goal.returns-in-Clocked-clause-does
returns-in-Clocked-clause-does g c =
    subst (λ h. HearsOf c.args.agent.now (thing_of h) c.args.self.now c.hear_next.new.self) (sym c.in-Clocked.is) (record {
      timed = c.hear_time.new.self;
      desk = c.hear_clock.new.self;
      time = c.hear_time.ensures;
      clock = c.hear_clock.ensures;
      then = c.hear_next.ensures;
    })

pub returns-in-Shorts-clause-does : goal.returns-in-Shorts-clause-does
returns-in-Shorts-clause-does g c = subst (λ h. HearsOf c.args.agent.now (thing_of h) c.args.self.now (record c.args.self.now { desk = c.hear_shorts.new.self })) (sym c.in-Shorts.is) (c.hear_shorts.ensures, refl)

-- the ends are marked before the answer is said, which leaves the desk as it was
module _ {S T D K E : Type 0} where
  answered : (agent : Agent) (entry : ℕ) (operation : Operation) (said : Said) (notes : Notes) (old heard : House S T D K E) (new : Desk) → HearsEnd said.reply old heard → HearsAnswer agent entry operation said notes heard.desk new →
      HearsAnswer agent entry operation said notes old.desk new × (record heard { desk = new } ≡ record old { desk = new; ends = option_map (after_answer said.reply) old.ends })
  answered agent entry operation said notes old heard new is h =
      (subst (λ (d : Desk). HearsAnswer agent entry operation said notes d new) (ap (λ (x : House S T D K E). x.desk) is) h, ap (λ (x : House S T D K E). record x { desk = new }) is)

pub returns-in-Answered-clause-does : goal.returns-in-Answered-clause-does
returns-in-Answered-clause-does g c =
    let a = c.in-Answered.handed in
    subst (λ h. HearsOf c.args.agent.now (thing_of h) c.args.self.now (record c.hear_end.new.self { desk = c.hear_answer.new.self })) (sym c.in-Answered.is)
    (answered c.args.agent.now a.entry a.operation a.said a.notes.now c.args.self.now c.hear_end.new.self c.hear_answer.new.self c.hear_end.ensures c.hear_answer.ensures)

pub returns-in-Ahead-clause-does : goal.returns-in-Ahead-clause-does
returns-in-Ahead-clause-does g c = subst (λ h. HearsOf c.args.agent.now (thing_of h) c.args.self.now c.hear_ahead.new.self) (sym c.in-Ahead.is) (c.hear_ahead.ensures.said, c.hear_ahead.ensures.rest)

pub returns-in-StepsIn-clause-does : goal.returns-in-StepsIn-clause-does
returns-in-StepsIn-clause-does g c = subst (λ h. HearsOf c.args.agent.now (thing_of h) c.args.self.now c.hear_steps.new.self) (sym c.in-StepsIn.is) (c.hear_steps.ensures.said, c.hear_steps.ensures.rest)

pub returns-in-Refused-clause-does : goal.returns-in-Refused-clause-does
returns-in-Refused-clause-does g c =
    let new = record c.args.self.now { desk = c.hear_wanting.new.self } in
    elim c.in-Refused.is [
      | inl is ↦ subst (λ h. HearsOf c.args.agent.now (thing_of h) c.args.self.now new) (sym is) (c.hear_wanting.ensures, refl)
      | inr is ↦ subst (λ h. HearsOf c.args.agent.now (thing_of h) c.args.self.now new) (sym is) (c.hear_wanting.ensures, refl)
    ]
