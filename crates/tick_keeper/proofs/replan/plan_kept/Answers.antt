-- Where no pair is unkeepable, the planner names none, so a plan that is refused is too long.
use Rattle.std.proofs.Common.{subst, inl, inr}
use Rattle.plan_search.specs.Decides.{Decides}
use Rattle.plan_search.proofs.Deciding.{some_keeps}
use Rattle.tick_keeper.proofs.replan.plan_kept.Goals as goal

pub returns-in-Unkeepable : goal.returns-in-Unkeepable
returns-in-Unkeepable c =
    let g = c.args.forest.now in
    let some = some_keeps g c.args.at c.len-entries.ensures.sound c.requires in
    record {
      kept = tt;
      refused = elim c.in-Unkeepable.is [
        | inl pair ↦ absurd (let none = subst (Decides g c.args.at) pair.2 c.in_ok-plan.ensures in none.1 some.0 some.1.0 some.1.1)
        | inr long ↦ subst (Decides g c.args.at) long c.in_ok-plan.ensures
      ];
    }
