-- The news of one entry more.
use Rattle.std.proofs.Common.{◌≡◌, ◌∙◌, ◌++◌, ℕ, List, ap, arith, flat_map, length}
use Rattle.std.specs.List.{range_with_len}
use Rattle.vault_inventory.specs.{Inventories.terms_at, declared.terms.Terms.Terms}
use Rattle.plan_forest.specs.Forest.{Forest}
use Rattle.agent_standing.specs.{declared.shorts.Short.Short, Standings.standing_in}
use Rattle.agent_standing.specs.Shorts.{news_of_entry, short_at, shorts_in}
use Rattle.agent_standing.proofs.Saying.{news_more}
use Rattle.agent_standing.proofs.shorts.shorts_of.Goals as goal

pub loop-entry-preserved : goal.loop-entry-preserved
loop-entry-preserved c =
    let f : ℕ → List Short = λ i. short_at i (terms_at c.args.inventory.now.terms i).reissued (news_of_entry c.args.watch.now c.args.inventory.now.terms i (standing_in c.args.standings.now i)) in
    let k = c.loop-entry.entry in
    let news = news_of_entry c.args.watch.now c.args.inventory.now.terms k (standing_in c.args.standings.now k) in
    c.in_ok-push_short.ensures ∙ ap (λ xs. xs ++ short_at k c.terms-reissued.result.reissued c.news_of_entry-news.result) c.loop-entry.invariant
    ∙ ap (λ o. flat_map f (range_with_len 0 k) ++ short_at k c.terms-reissued.result.reissued o) c.news_of_entry-news.ensures
    ∙ ap (λ (t : Terms). flat_map f (range_with_len 0 k) ++ short_at k t.reissued news) c.terms-reissued.ensures.value ∙ news_more f k

pub returns : goal.returns
unfolding shorts_in
returns c =
    let f : ℕ → List Short = λ i. short_at i (terms_at c.args.inventory.now.terms i).reissued (news_of_entry c.args.watch.now c.args.inventory.now.terms i (standing_in c.args.standings.now i)) in
    let count : c.len-entry-end.result ≡ length c.args.watch.now.forest.entries = c.len-entry-end.ensures.value ∙ ap (λ (g : Forest). length g.entries) c.forest.ensures in
    let same = c.requires.count in
    c.loop-entry.invariant ∙ ap (λ n. flat_map f (range_with_len 0 n)) (let e : c.loop-entry.entry ≡ length c.args.standings.now = omega (arith, count, same) in e)
