-- The need of one entry more is a moment, and is listed as it is.
use Rattle.std.proofs.Common.{◌≡◌, ◌+◌, ◌∙◌, ℕ, IfSome, Option, ap, arith, subst, sym}
use Rattle.plan_forest.specs.{declared.entry.Entry.Entry, Forest.entry_at}
use Rattle.plan_rule.proofs.Lists.{need_within}
use Rattle.tick_keeper.specs.code.Passes.{AreNeeds}
use Rattle.tick_keeper.proofs.Passing.{needs_more}
use Rattle.tick_keeper.proofs.shorten.needs_of.Goals as goal

pub unwrap-requires : goal.unwrap-requires
unwrap-requires c =
    let most = need_within c.args.forest.now c.get.ensures.sound c.loop-index.index in
    let same = ap (λ (e : Entry). e.need) c.get.ensures.value in
    c.new.ensures.within.1 (omega arith)

pub loop-index-preserved : goal.loop-index-preserved
loop-index-preserved c =
    let es = c.args.forest.now.entries in
    let i = c.loop-index.index in
    let value : c.unwrap.result ≡ c.get.result.now.need = subst (λ (o : Option ℕ). IfSome o (λ m. m ≡ c.get.result.now.need)) c.unwrap.ensures c.new.ensures.value in
    subst (AreNeeds (i + 1) (λ k. (entry_at es k).need)) (sym c.in_ok-push.ensures.items)
    (needs_more (λ k. (entry_at es k).need) i c.loop-index.needs.items c.unwrap.result c.loop-index.invariant (value ∙ ap (λ (e : Entry). e.need) c.get.ensures.value))
