-- What is short was said, or memory was wanting for that.
use Rattle.std.proofs.Common.{◌∙◌, ap, subst, sym}
use Rattle.agent_standing.specs.Shorts.{all_said, shorts_of}
use Rattle.agent_turns.specs.{Calls.needs_of, Held.Held, Neighbours.Hear, Stages.ShortsAreSaid}
use Rattle.agent_turns.proofs.{Read.said_not, Read.said_so, serving.Serving.say_shorts.Goals.in-Ok, serving.Serving.say_shorts.Goals.in-Err}
use Rattle.agent_turns.proofs.serving.Serving.say_shorts.Goals as goal

pub returns-clause-said : goal.returns-clause-said
returns-clause-said g c =
    let old = c.args.self.now.agent in
    let new = c.say_shorts.new.self in
    let seen = ap (λ (h : Held). h.agent) c.self.view_is in
    elim c.match-say_shorts.branch [
      | in-Ok w ↦
          subst (λ n. (said : ShortsAreSaid old new) × g.N.Neighbours.does (Hear new (needs_of old new said)) c.args.neighbours.now n) (sym w.neighbours-is)
          (said_so g.N.Neighbours.does old new w.deref.result.now c.args.neighbours.now w.hear.new.self (w.in-Ok.ensures.said ∙ ap all_said seen) (w.deref.ensures.value ∙ w.in-Ok.ensures.shorts ∙ ap shorts_of seen) w.hear.ensures.does)
      | in-Err w ↦
          subst (λ n. (said : ShortsAreSaid old new) × g.N.Neighbours.does (Hear new (needs_of old new said)) c.args.neighbours.now n) (sym w.neighbours-is)
          (said_not g.N.Neighbours.does old new c.args.neighbours.now w.hear-in-Err.new.self (w.in-Err.ensures.unchanged ∙ seen) w.hear-in-Err.ensures.does)
    ]
