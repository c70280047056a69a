-- A forest that was planned anew makes a keeper, in which no round is open.
use Rattle.std.proofs.Common.{◌∙◌, ◌++◌, ap, subst, sym}
use Rattle.plan_forest.specs.Push.{IsForest}
use Rattle.tick_keeper.specs.{Shorten.pairs, State.unplanned}
use Rattle.tick_keeper.proofs.{Made.made, Made.made_keeper, Shortening.shorten_forest}
use Rattle.tick_keeper.proofs.keeper.Keeper.new.Goals as goal

pub invariant_of-result : goal.invariant_of-result
invariant_of-result c = made_keeper c.replan.new.forest c.args.start c.in-Ok.plan (subst IsForest (sym c.in-Ok.ensures.shortened.0) (shorten_forest c.args.forest c.in-Ok.ensures.sound.0 c.args.start)) c.in-Ok.ensures.sound.1 c.in-Ok.ensures.planned

pub returns-in-Ok-clause-opened : goal.returns-in-Ok-clause-opened
returns-in-Ok-clause-opened c =
    made (unplanned c.args.forest) c.args.start c.replan.new.forest c.in-Ok.plan c.replan.new.shortened.items c.in-Ok.ensures.shortened.0 (c.in-Ok.ensures.shortened.1 ∙ ap (λ xs. xs ++ pairs c.args.forest c.args.start) c.new-shortened.ensures.items) c.in-Ok.ensures.planned
