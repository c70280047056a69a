-- Whenever no round is open, the plan of a keeper is in force.
use Rattle.std.proofs.Common.{◌≡◌, ◌∙◌, None, ap, arith, subst}
use Rattle.plan_search.specs.Planned.{to_come}
use Rattle.tick_keeper.specs.{InForce.InForce, State.CoreState}
use Rattle.tick_keeper.proofs.Made.{count_moments, none_seen}
use Rattle.tick_keeper.proofs.keeper.Keeper.plan.Goals as goal

pub returns-clause-in_force : goal.returns-clause-in_force
returns-clause-in_force c = λ closed.
    let none : c.self.inside.round ≡ None = none_seen c.self.inside.round (ap (λ (s : CoreState). s.round) c.self.view_is ∙ closed) in
    let few = c.self.invariant.few in
    subst InForce c.self.view_is (c.self.invariant.best none, (let l = count_moments (to_come c.self.inside.plan) in omega arith))
