-- One standing more is carried over.
use Rattle.std.proofs.Common.{◌≡◌, ◌∙◌, ◌++◌, ◌∷◌, [], ℕ, ap, arith, length, map, subst, sym}
use Rattle.std.proofs.lemmas.{List.Elements.All-push, List.FromFn.map-range_with_len_more}
use Rattle.std.specs.List.{All, range_with_len}
use Rattle.plan_forest.specs.Forest.{Forest}
use Rattle.agent_standing.specs.{declared.standing.EntryStanding.EntryStanding, Agent.IsStanding, Changed.carried_standing}
use Rattle.agent_standing.proofs.agent.Agent.carried.Goals as goal

pub loop-index-preserved : goal.loop-index-preserved
loop-index-preserved c =
    let f : ℕ → EntryStanding = carried_standing c.args.self.now c.args.inventory.now in
    let k = c.loop-index.index in
    record {
      is =
          c.in_ok-push.ensures.items ∙ ap (λ xs. xs ++ c.carried_standing.result ∷ []) c.loop-index.invariant.is
          ∙ ap (λ x. map f (range_with_len 0 k) ++ x ∷ []) c.carried_standing.ensures.value ∙ sym (map-range_with_len_more f 0 k k (omega arith));
      bounds = subst (All IsStanding) (sym c.in_ok-push.ensures.items) (All-push IsStanding c.loop-index.standings.items c.carried_standing.result c.loop-index.invariant.bounds c.carried_standing.ensures.bounds);
    }

pub returns-clause-value : goal.returns-clause-value
returns-clause-value c =
    let f : ℕ → EntryStanding = carried_standing c.args.self.now c.args.inventory.now in
    let count : c.len-index-end.result ≡ length c.args.inventory.now.forest.entries = c.len-index-end.ensures.value ∙ ap (λ (g : Forest). length g.entries) c.forest.ensures.value in
    c.loop-index.invariant.is ∙ ap (λ n. map f (range_with_len 0 n)) (let e : c.loop-index.index ≡ length c.args.inventory.now.forest.entries = omega (arith, count) in e)
