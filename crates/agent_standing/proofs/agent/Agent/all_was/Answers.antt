-- It is said of one entry more.
use Rattle.std.proofs.Common.{◌≡◌, ◌∙◌, ◌++◌, ◌∷◌, [], ℕ, ap, arith, length, map, sym}
use Rattle.std.proofs.lemmas.List.FromFn.{map-range_with_len_more}
use Rattle.std.specs.List.{range_with_len}
use Rattle.plan_forest.specs.Forest.{Forest}
use Rattle.watch_machine.specs.declared.change.Was.{Was}
use Rattle.agent_standing.specs.Changed.{all_was, was_of}
use Rattle.agent_standing.proofs.agent.Agent.all_was.Goals as goal

pub loop-index-preserved : goal.loop-index-preserved
loop-index-preserved c =
    let f : ℕ → Was = was_of c.args.self.now.inventory c.args.inventory.now in
    let k = c.loop-index.index in
    c.in_ok-push.ensures.items ∙ ap (λ ws. ws ++ c.was_of.result ∷ []) c.loop-index.invariant ∙ ap (λ w. map f (range_with_len 0 k) ++ w ∷ []) c.was_of.ensures
    ∙ sym (map-range_with_len_more f 0 k k (omega arith))

pub returns : goal.returns
unfolding all_was
returns c =
    let f : ℕ → Was = was_of c.args.self.now.inventory c.args.inventory.now in
    let count : c.len-index-end.result ≡ length c.args.inventory.now.forest.entries = c.len-index-end.ensures.value ∙ ap (λ (g : Forest). length g.entries) c.forest.ensures.value in
    c.loop-index.invariant ∙ ap (λ n. map f (range_with_len 0 n)) (let e : c.loop-index.index ≡ length c.args.inventory.now.forest.entries = omega (arith, count) in e)
