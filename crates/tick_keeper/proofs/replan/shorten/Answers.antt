-- The needs that are set are those that shortening leaves, and its pairs are noted after those of before.
use Rattle.std.proofs.Common.{◌∙◌, ◌++◌, ap, subst, sym}
use Rattle.tick_keeper.specs.{code.Passes.AreNeeds, Shorten.need_left}
use Rattle.tick_keeper.proofs.Passing.{shortened_set}
use Rattle.tick_keeper.proofs.replan.shorten.Goals as goal

pub returns-clause-shortened : goal.returns-clause-shortened
returns-clause-shortened c =
    let g = c.args.forest.now in
    let at = c.args.at in
    let needs : AreNeeds _ (need_left g at) c.deref-4.result.now = subst (AreNeeds _ (need_left g at)) (sym c.deref-4.ensures.value) c.in_ok-needs.ensures in (
      c.set_needs.ensures ∙ shortened_set g at c.deref-4.result.now needs,
      c.in_ok-extend_from_slice.ensures.items ∙ ap (λ xs. c.args.shortened.now.items ++ xs) (c.deref-3.ensures.value ∙ c.in_ok-pairs.ensures),
    )
