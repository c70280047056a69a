-- Forests alike: lists of entries that differ in needs, ends, names and kinds alone. What a plan does to given ends is the same.
use Rattle.std.proofs.Common.{◌≡◌, ◌==◌, ℕ, suc, ◌+◌, ◌<◌, ◌≤◌, ◌&&◌, cond, List, [], ◌∷◌, Some, filter, max, nat_le, option_map, refl, sym, ap, ◌∙◌, subst, arith}
use Rattle.std.proofs.Math.Path.{fun_ext}
use Rattle.std.specs.List.{list_all, list_any}
use Rattle.plan_forest.specs.{declared.entry.Entry.Entry, Forest.entry_at, Over.chain, Over.is_over}
use Rattle.plan_forest.specs.Renewal.{all_last, capped, is_granted, renewal, renewed}
use Rattle.plan_forest.proofs.Chains.{ParentsFirst, chain_same}
use Rattle.plan_rule.specs.{declared.wake.Wake.Wake, Keeps.Keeps, Keeps.ends_at, Least.IsLeastAndLatest, Reach.reach, Reach.reach_of}
use Rattle.plan_rule.specs.Ends.{ends_after, ends_after_wake_up, is_asked}

-- the fields by which a plan acts are the same
pub record Alike (es fs : List Entry) : Type 0 where
  pub first : ParentsFirst es
  pub parent : (i : ℕ) → (entry_at fs i).parent ≡ (entry_at es i).parent
  pub renewable : (i : ℕ) → (entry_at fs i).renewable ≡ (entry_at es i).renewable
  pub step : (i : ℕ) → (entry_at fs i).step ≡ (entry_at es i).step
  pub ceiling : (i : ℕ) → (entry_at fs i).ceiling ≡ (entry_at es i).ceiling

pub back : (es fs : List Entry) → Alike es fs → Alike fs es
back es fs a = record {
  first = λ i p child. a.first i p (sym (a.parent i) ∙ child);
  parent = λ i. sym (a.parent i);
  renewable = λ i. sym (a.renewable i);
  step = λ i. sym (a.step i);
  ceiling = λ i. sym (a.ceiling i);
}

pub chain_alike : (es fs : List Entry) → Alike es fs → (i : ℕ) → chain fs i ≡ chain es i
chain_alike es fs a i = chain_same (suc i) es fs a.first (λ k _. a.parent k) i (omega arith)

pub over_alike : (es fs : List Entry) → Alike es fs → (above i : ℕ) → is_over fs above i ≡ is_over es above i
unfolding is_over
over_alike es fs a above i = ap (list_any (λ b. b == above)) (chain_alike es fs a i)

pub renewal_alike : (es fs : List Entry) → Alike es fs → (i t : ℕ) → renewal (entry_at fs i) t ≡ renewal (entry_at es i) t
unfolding renewal
renewal_alike es fs a i t = ap (λ c. capped c (t + (entry_at fs i).step)) (a.ceiling i) ∙ ap (λ n. capped (entry_at es i).ceiling (t + n)) (a.step i)

pub all_last_alike : (es fs : List Entry) → Alike es fs → (ends : ℕ → ℕ) (m i : ℕ) → all_last fs ends m i ≡ all_last es ends m i
unfolding all_last
all_last_alike es fs a ends m i = ap (list_all (λ k. nat_le m (ends k))) (chain_alike es fs a i)

pub renewed_alike : (es fs : List Entry) → Alike es fs → (margin : ℕ) (ends : ℕ → ℕ) (t i : ℕ) → renewed fs margin ends t i ≡ renewed es margin ends t i
unfolding renewed is_granted
renewed_alike es fs a margin ends t i =
    ap (λ b. cond (b && all_last fs ends (t + margin) i) (renewal (entry_at fs i) t) (ends i)) (a.renewable i)
    ∙ ap (λ b. cond ((entry_at es i).renewable && b) (renewal (entry_at fs i) t) (ends i)) (all_last_alike es fs a ends (t + margin) i)
    ∙ ap (λ n. cond ((entry_at es i).renewable && all_last es ends (t + margin) i) n (ends i)) (renewal_alike es fs a i t)

pub after_alike : (es fs : List Entry) → Alike es fs → (margin : ℕ) (ends : ℕ → ℕ) (w : Wake) → ends_after_wake_up fs margin ends w ≡ ends_after_wake_up es margin ends w
unfolding ends_after_wake_up
after_alike es fs a margin ends w = fun_ext λ i. ap (λ n. cond (is_asked w i) n (ends i)) (renewed_alike es fs a margin ends w.at i)

ends_after_alike : (es fs : List Entry) → Alike es fs → (margin : ℕ) (ws : List Wake) (ends : ℕ → ℕ) → ends_after fs margin ends ws ≡ ends_after es margin ends ws
unfolding ends_after
ends_after_alike es fs a margin [] ends = refl
ends_after_alike es fs a margin (w ∷ ws) ends =
    ends_after_alike es fs a margin ws (ends_after_wake_up fs margin ends w) ∙ ap (λ e. ends_after es margin e ws) (after_alike es fs a margin ends w)

pub ends_at_alike : (es fs : List Entry) → Alike es fs → (margin : ℕ) (ends : ℕ → ℕ) (ws : List Wake) (m : ℕ) → ends_at fs margin ends ws m ≡ ends_at es margin ends ws m
unfolding ends_at
ends_at_alike es fs a margin ends ws m = ends_after_alike es fs a margin (filter (λ w. nat_le w.at m) ws) ends

pub reach_alike : (es fs : List Entry) → Alike es fs → (margin s : ℕ) (ends : ℕ → ℕ) (i : ℕ) → reach fs margin s ends i ≡ reach es margin s ends i
unfolding reach reach_of
reach_alike es fs a margin s ends i = same_reach (entry_at es i) (entry_at fs i) margin s (ends i) (a.renewable i) (a.ceiling i) where
  same_reach : (x y : Entry) (margin s end : ℕ) → y.renewable ≡ x.renewable → y.ceiling ≡ x.ceiling → reach_of y margin s end ≡ reach_of x margin s end
  same_reach x y margin s end renewable ceiling =
      ap (λ b. cond (b && nat_le (s + margin) end) (option_map (λ c. max end c) y.ceiling) (Some end)) renewable
      ∙ ap (λ o. cond (x.renewable && nat_le (s + margin) end) (option_map (λ c. max end c) o) (Some end)) ceiling

-- what keeps needs keeps those that are no greater
pub keeps_alike :
    (es fs : List Entry) → Alike es fs → ((i : ℕ) → (entry_at fs i).need ≤ (entry_at es i).need) → (margin s : ℕ) (ends : ℕ → ℕ) (ws : List Wake) →
    Keeps es margin s ends ws → Keeps fs margin s ends ws
keeps_alike es fs a less margin s ends ws keeps i m from need above over =
    let l = less i in
    subst (λ (e : ℕ → ℕ). m < e above) (sym (ends_at_alike es fs a margin ends ws m)) (keeps i m from (omega arith) above (sym (over_alike es fs a above i) ∙ over))

pub best_alike :
    (es fs : List Entry) → Alike es fs → ((i : ℕ) → (entry_at fs i).need ≡ (entry_at es i).need) → (margin s : ℕ) (ends : ℕ → ℕ) (ts : List ℕ) →
    IsLeastAndLatest es margin s ends ts → IsLeastAndLatest fs margin s ends ts
best_alike es fs a same margin s ends ts best =
    let less : (i : ℕ) → (entry_at fs i).need ≤ (entry_at es i).need = λ i. let e = same i in omega arith in
    let more : (i : ℕ) → (entry_at es i).need ≤ (entry_at fs i).need = λ i. let e = same i in omega arith in
    let other_way = keeps_alike fs es (back es fs a) more margin s ends in
    record {
      plan = best.plan;
      in_order = best.in_order;
      at_these = best.at_these;
      kept = keeps_alike es fs a less margin s ends best.plan best.kept;
      least = λ other o k. best.least other o (other_way other k);
      latest = λ other o k. best.latest other o (other_way other k);
    }
