-- Each look moment is compared with the least one before it.
use Rattle.std.proofs.Common.{◌≡◌, ◌∙◌, ℕ, ap, arith, length, map, min, sym}
use Rattle.std.proofs.lemmas.{List.FromFn.map-range_with_len_more, List.Sums.fold_push}
use Rattle.std.specs.List.{range_with_len}
use Rattle.plan_forest.specs.Forest.{Forest}
use Rattle.watch_machine.specs.Wanted.{least}
use Rattle.watch_scout.specs.Looking.{next_look, next_moment}
use Rattle.watch_scout.proofs.scout.Scout.next.Goals as goal

pub loop-index-preserved : goal.loop-index-preserved
loop-index-preserved c =
    let until = c.args.until in
    let k = c.loop-index.index in
    let f : ℕ → ℕ = next_look c.args.self.now c.args.watch.now until in
    c.min-least.ensures ∙ ap (λ n. min n c.next_look.result) c.loop-index.invariant ∙ ap (min (least until (map f (range_with_len 0 k)))) c.next_look.ensures
    ∙ sym (ap (least until) (map-range_with_len_more f 0 k k (omega arith)) ∙ fold_push min until (map f (range_with_len 0 k)) (f k))

pub returns : goal.returns
unfolding next_moment
returns c =
    let f : ℕ → ℕ = next_look c.args.self.now c.args.watch.now c.args.until in
    let count : c.len-index-end.result ≡ length c.args.watch.now.forest.entries = c.len-index-end.ensures.value ∙ ap (λ (g : Forest). length g.entries) c.forest.ensures in
    c.loop-index.invariant ∙ ap (λ n. least c.args.until (map f (range_with_len 0 n))) (let e : c.loop-index.index ≡ length c.args.watch.now.forest.entries = omega (arith, count) in e)
