-- One entry more; in the end all that wait.
use Rattle.std.proofs.Common.{◌≡◌, ◌∙◌, ◌++◌, ℕ, List, ap, arith, flat_map, length, sym}
use Rattle.std.proofs.lemmas.List.{flat_map_more}
use Rattle.std.specs.List.{range_with_len}
use Rattle.plan_forest.proofs.Ranges.{range_more}
use Rattle.agent_pages.specs.{Waiting.row_if_waiting, Waiting.rows_among, declared.board.BoardRow.BoardRow}
use Rattle.agent_pages.proofs.waiting.push_among.Goals as goal

pub loop-index-preserved : goal.loop-index-preserved
loop-index-preserved c =
    let f : ℕ → List BoardRow = row_if_waiting c.args.served.now.entries c.args.all.now.entries in
    let k = c.loop-index.index in
    let before = c.args.rows.now.items in
    c.in_ok-push_row.ensures ∙ ap (λ xs. xs ++ f k) c.loop-index.invariant ∙ flat_map_more f before (range_with_len 0 k) k
    ∙ ap (λ xs. before ++ flat_map f xs) (sym (range_more 0 k k (omega arith)))

pub returns : goal.returns
unfolding rows_among
returns c =
    let f : ℕ → List BoardRow = row_if_waiting c.args.served.now.entries c.args.all.now.entries in
    let whole : c.loop-index.index ≡ length c.args.all.now.entries = omega (arith, c.len-index-end.ensures.value, c.loop-index-test.false, c.loop-index.auto.index-end) in
    c.loop-index.invariant ∙ ap (λ n. c.args.rows.now.items ++ flat_map f (range_with_len 0 n)) whole
