-- The least own end over each entry, and what it says of being kept.
use Rattle.std.proofs.Common.{◌≡◌, ℕ, ◌+◌, ◌<◌, ◌≤◌, ◌&&◌, ◌++◌, true, false, List, [], ◌∷◌, Option, Some, None, get_or, length, nat_le, refl, sym, ap, ◌∙◌, subst, arith, inl, inr}
use Rattle.std.proofs.lemmas.{Bool.cases_eq, Bool.Decides.nat_tests, List.get_or_append_left, List.get_or_push}
use Rattle.plan_forest.specs.{Forest.Forest, Forest.entry_at, Push.IsForest, Renewal.all_last}
use Rattle.plan_forest.proofs.{Chains.all_last_child, Chains.all_last_root, Placed.parents_first}
use Rattle.plan_rule.proofs.Rounds.{LastsBelow, le_min}
use Rattle.plan_check.specs.code.Steps.{AllLast, least_with}

least_by :
    (g : Forest) → IsForest g → (owns : ℕ → ℕ) (lasts : List ℕ) (i : ℕ) (parent : Option ℕ) → (entry_at g.entries i).parent ≡ parent → LastsBelow g.entries owns lasts i →
    (m : ℕ) → nat_le m (least_with parent (owns i) lasts) ≡ all_last g.entries owns m i
least_by g forest owns lasts i None root below m = sym (all_last_root g.entries owns m i root)
least_by g forest owns lasts i (Some p) child below m =
    let first = parents_first g forest in
    le_min m (owns i) (get_or lasts p 0) ∙ ap (λ b. nat_le m (owns i) && b) (below p m (first i p child)) ∙ sym (all_last_child g.entries owns m i p first child)

-- what is carried for an entry is the least own end over it
pub least_here :
    (g : Forest) → IsForest g → (owns : ℕ → ℕ) (lasts : List ℕ) (i end last : ℕ) → LastsBelow g.entries owns lasts i → end ≡ owns i → last ≡ least_with (entry_at g.entries i).parent end lasts →
    (m : ℕ) → nat_le m last ≡ all_last g.entries owns m i
least_here g forest owns lasts i end last below own is m =
    ap (nat_le m) (is ∙ ap (λ e. least_with (entry_at g.entries i).parent e lasts) own) ∙ least_by g forest owns lasts i (entry_at g.entries i).parent refl below m

pub least_pushed :
    (g : Forest) (owns : ℕ → ℕ) (lasts : List ℕ) (i last : ℕ) → length lasts ≡ i → LastsBelow g.entries owns lasts i → ((m : ℕ) → nat_le m last ≡ all_last g.entries owns m i) →
    LastsBelow g.entries owns (lasts ++ last ∷ []) (i + 1)
least_pushed g owns lasts i last count below here k m within =
    elim (cases_eq k i) [
      | inl same ↦ subst (λ n. nat_le m (get_or (lasts ++ last ∷ []) n 0) ≡ all_last g.entries owns m n) (sym same) (ap (nat_le m) (get_or_push lasts last 0 i count) ∙ here m)
      | inr other ↦ ap (nat_le m) (get_or_append_left lasts (last ∷ []) 0 k (omega arith)) ∙ below k m (omega arith)
    ]

-- one entry more
pub all_last_more :
    (g : Forest) (s : ℕ) (owns : ℕ → ℕ) (i last : ℕ) → ((m : ℕ) → nat_le m last ≡ all_last g.entries owns m i) → AllLast g s owns i → (s < (entry_at g.entries i).need → (entry_at g.entries i).need ≤ last) → AllLast g s owns (i + 1)
all_last_more g s owns i last here before lasts j within later =
    elim (cases_eq j i) [
      | inl same ↦
          let h : (entry_at g.entries i).need ≤ last = lasts (subst (λ k. s < (entry_at g.entries k).need) same later) in
          subst (λ k. all_last g.entries owns (entry_at g.entries k).need k ≡ true) (sym same)
          (sym (here (entry_at g.entries i).need) ∙ (let l : nat_le (entry_at g.entries i).need last ≡ true = grind (arith, nat_tests) in l))
      | inr other ↦ before j (omega arith) later
    ]

pub short_here : (g : Forest) (owns : ℕ → ℕ) (i last : ℕ) → ((m : ℕ) → nat_le m last ≡ all_last g.entries owns m i) → last < (entry_at g.entries i).need → all_last g.entries owns (entry_at g.entries i).need i ≡ false
short_here g owns i last here short = sym (here (entry_at g.entries i).need) ∙ (let l : nat_le (entry_at g.entries i).need last ≡ false = grind (arith, nat_tests) in l)
