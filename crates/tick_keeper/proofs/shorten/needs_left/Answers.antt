-- What is left of one need more is a moment, which the least reach over the entry decides.
use Rattle.std.proofs.Common.{◌≡◌, ◌∙◌, ◌+◌, ◌<◌, ℕ, IfSome, Option, ap, arith, length, subst, sym, unwrap_or}
use Rattle.plan_forest.specs.declared.entry.Entry.{Entry}
use Rattle.tick_keeper.specs.{code.Passes.AreNeeds, Shorten.need_left}
use Rattle.tick_keeper.proofs.Passing.{left_found, left_within, needs_more}
use Rattle.tick_keeper.proofs.shorten.needs_left.Goals as goal

pub unwrap-requires : goal.unwrap-requires
unwrap-requires c =
    let g = c.args.forest.now in
    let i = c.loop-index.index in
    let within : i < length g.entries = omega (arith, c.len-index-end.ensures.value) in
    let left : c.unwrap_or-left.result ≡ need_left g c.args.at i =
    c.unwrap_or-left.ensures ∙ ap (λ o. unwrap_or o c.get.result.now.need) c.shorter.ensures ∙ left_found g c.args.at i _ c.get.result.now.need (c.requires.each i within) (ap (λ (e : Entry). e.need) c.get.ensures.value) in
    let most = left_within g c.get.ensures.sound c.args.at i in
    c.new.ensures.within.1 (omega arith)

pub loop-index-preserved : goal.loop-index-preserved
loop-index-preserved c =
    let g = c.args.forest.now in
    let i = c.loop-index.index in
    let within : i < length g.entries = omega (arith, c.len-index-end.ensures.value) in
    let left : c.unwrap_or-left.result ≡ need_left g c.args.at i =
    c.unwrap_or-left.ensures ∙ ap (λ o. unwrap_or o c.get.result.now.need) c.shorter.ensures ∙ left_found g c.args.at i _ c.get.result.now.need (c.requires.each i within) (ap (λ (e : Entry). e.need) c.get.ensures.value) in
    let value : c.unwrap.result ≡ c.unwrap_or-left.result = subst (λ (o : Option ℕ). IfSome o (λ m. m ≡ c.unwrap_or-left.result)) c.unwrap.ensures c.new.ensures.value in
    subst (AreNeeds (i + 1) (need_left g c.args.at)) (sym c.in_ok-push.ensures.items) (needs_more (need_left g c.args.at) i c.loop-index.needs.items c.unwrap.result c.loop-index.invariant (value ∙ left))
