-- The need of one entry more is listed.
use Rattle.std.proofs.Common.{◌++◌, ◌∷◌, [], ◌∙◌, ap, arith, map, sym}
use Rattle.std.specs.List.{range_with_len}
use Rattle.std.proofs.lemmas.List.FromFn.{map-range_with_len_more}
use Rattle.vault_served.specs.ForGood.{need_for_good}
use Rattle.vault_served.proofs.for_good.needs_for_good.Goals as goal

pub loop-index-preserved : goal.loop-index-preserved
loop-index-preserved c =
    let f = need_for_good c.args.forest.now c.args.always.now in
    let i = c.loop-index.index in
    c.in_ok-push.ensures.items ∙ ap (λ xs. xs ++ c.need_for_good.result ∷ []) c.loop-index.invariant ∙ ap (λ n. map f (range_with_len 0 i) ++ n ∷ []) c.need_for_good.ensures ∙ sym (map-range_with_len_more f 0 i i (omega arith))
