-- One index more is listed after those before it.
use Rattle.std.proofs.Common.{◌∙◌, ◌++◌, ◌∷◌, [], ap, sym, arith}
use Rattle.plan_forest.proofs.Ranges.{range_more}
use Rattle.plan_commands.proofs.ends_text.every_index.Goals as goal

pub loop-index-preserved : goal.loop-index-preserved
loop-index-preserved c = c.in_ok-push.ensures.items ∙ ap (λ xs. xs ++ c.loop-index.index ∷ []) c.loop-index.invariant ∙ sym (range_more 0 c.loop-index.index c.loop-index.index (omega arith))
