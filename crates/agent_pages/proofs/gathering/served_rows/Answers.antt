-- The row of one entry more.
use Rattle.std.proofs.Common.{◌∙◌, ◌++◌, ◌∷◌, [], ℕ, ap, arith, map, sym}
use Rattle.std.proofs.lemmas.List.FromFn.{map-range_with_len_more}
use Rattle.std.specs.List.{range_with_len}
use Rattle.agent_pages.specs.{Board.row_of, declared.board.BoardRow.BoardRow}
use Rattle.agent_pages.proofs.gathering.served_rows.Goals as goal

pub loop-index-preserved : goal.loop-index-preserved
loop-index-preserved c =
    let f : ℕ → BoardRow = row_of c.args.agent.now in
    let k = c.loop-index.index in
    c.in_ok-push.ensures.items ∙ ap (λ xs. xs ++ c.in_ok-row_of.field-0 ∷ []) c.loop-index.invariant
    ∙ ap (λ x. map f (range_with_len 0 k) ++ x ∷ []) c.in_ok-row_of.ensures ∙ sym (map-range_with_len_more f 0 k k (omega arith))
