-- The need of one entry more is listed.
use Rattle.std.proofs.Common.{◌++◌, ◌∷◌, [], ◌∙◌, ap, arith, map, sym}
use Rattle.std.specs.List.{range_with_len}
use Rattle.std.proofs.lemmas.List.FromFn.{map-range_with_len_more}
use Rattle.tick_keeper.specs.Always.{need_from}
use Rattle.tick_keeper.proofs.always.needs_from.Goals as goal

pub loop-index-preserved : goal.loop-index-preserved
loop-index-preserved c =
    let f = need_from c.args.forest.now c.args.always.now c.args.start in
    let i = c.loop-index.index in
    c.in_ok-push.ensures.items ∙ ap (λ xs. xs ++ c.need_from.result ∷ []) c.loop-index.invariant ∙ ap (λ n. map f (range_with_len 0 i) ++ n ∷ []) c.need_from.ensures ∙ sym (map-range_with_len_more f 0 i i (omega arith))
