-- Until: what binds an entry is the least reach over it, so some plan keeps it that long where it alone is needed, and none
-- longer.
use Rattle.std.proofs.Common.{◌≡◌, ◌∙◌, ◌==◌, ◌||◌, ℕ, suc, ◌<◌, ◌≤◌, Bool, true, false, cond, List, [], ◌∷◌, Option, Some, None, nat_le, refl, sym, ap, subst, arith, inl, inr, ◌⊎◌}
use Rattle.std.proofs.lemmas.Bool.Decides.{nat_tests}
use Rattle.std.proofs.lemmas.Bool.{cases_lt, or_cases, or_right}
use Rattle.std.specs.List.{list_any}
use Rattle.plan_forest.specs.declared.entry.Entry.{Entry}
use Rattle.plan_forest.specs.Forest.{Forest, end_of, entry_at}
use Rattle.plan_forest.specs.Over.{Over, chain, is_over}
use Rattle.plan_forest.proofs.{Chains.cases_Option, Chains.chain_same, Placed.parents_first}
use Rattle.plan_rule.specs.Reach.{reach, reach_of}
use Rattle.plan_search.specs.Decides.{NoneKeeps}
use Rattle.plan_search.proofs.Deciding.{none_keeps, some_keeps}
use Rattle.plan_commands.specs.declared.bound.Bound.{Bound}
use Rattle.plan_commands.specs.ReachLaws.{DifferInNeeds, IsWithinReach, UntilLaw, WhateverIsNeeded}
use Rattle.plan_commands.specs.ReachText.{binding, binding_reach, nearer}

-- ---- of two reaches

one_of : (own : Option ℕ) (i : ℕ) (over : Option ℕ) (by m : ℕ) → (nearer own i over by).most ≡ Some m → (own ≡ Some m) ⊎ (over ≡ Some m)
one_of own i None by m is = inl is
one_of None i (Some o) by m is = inr is
one_of (Some r) i (Some o) by m is = by_test (nat_le o r) is where
  by_test : (b : Bool) → (let chosen : Bound = cond b (record { most = Some o; by = by }) (record { most = Some r; by = i }) in chosen.most) ≡ Some m → (Some r ≡ Some m) ⊎ (Some o ≡ Some m)
  by_test true is = inr is
  by_test false is = inl is

abbrev pub IsAtMost : Bound → ℕ → Type 0
IsAtMost b r = (m : ℕ) × (b.most ≡ Some m) × (m ≤ r)

own_at_most : (r i : ℕ) (over : Option ℕ) (by : ℕ) → IsAtMost (nearer (Some r) i over by) r
own_at_most r i None by = (r, refl, omega arith)
own_at_most r i (Some o) by = by_test (nat_le o r) refl where
  by_test : (b : Bool) → nat_le o r ≡ b → IsAtMost (cond b (record { most = Some o; by = by }) (record { most = Some r; by = i })) r
  by_test true test = (o, refl, grind (arith, nat_tests))
  by_test false test = (r, refl, omega arith)

over_at_most : (own : Option ℕ) (i o by : ℕ) → IsAtMost (nearer own i (Some o) by) o
over_at_most None i o by = (o, refl, omega arith)
over_at_most (Some r) i o by = by_test (nat_le o r) refl where
  by_test : (b : Bool) → nat_le o r ≡ b → IsAtMost (cond b (record { most = Some o; by = by }) (record { most = Some r; by = i })) o
  by_test true test = (o, refl, omega arith)
  by_test false test = (r, refl, grind (arith, nat_tests))

-- ---- of the reaches over an entry

same_is : (n : ℕ) → (n == n) ≡ true
same_is n = grind (arith, nat_tests)

pub is_same : (a b : ℕ) → (a == b) ≡ true → a ≡ b
is_same a b e = grind (arith, nat_tests)

module _ (p : ℕ → Option ℕ) where
  pub binding_has : (xs : List ℕ) (m : ℕ) → (binding p xs).most ≡ Some m → (a : ℕ) × (list_any (λ b. b == a) xs ≡ true) × (p a ≡ Some m)
  binding_has [] m is = absurd cc
  binding_has (x ∷ xs) m is =
      elim (one_of (p x) x (binding p xs).most (binding p xs).by m is) [
        | inl own ↦ (x, ap (λ t. t || list_any (λ b. b == x) xs) (same_is x), own)
        | inr over ↦ let rest = binding_has xs m over in (rest.0, or_right (x == rest.0) (list_any (λ b. b == rest.0) xs) rest.1, rest.2)
      ]

  pub binding_least : (xs : List ℕ) (a r : ℕ) → list_any (λ b. b == a) xs ≡ true → p a ≡ Some r → IsAtMost (binding p xs) r
  binding_least [] a r here is = absurd cc
  binding_least (x ∷ xs) a r here is =
      elim (or_cases (x == a) (list_any (λ b. b == a) xs) here) [
        | inl same ↦ subst (λ (own : Option ℕ). IsAtMost (nearer own x (binding p xs).most (binding p xs).by) r) (sym (ap p (is_same x a same) ∙ is)) (own_at_most r x (binding p xs).most (binding p xs).by)
        | inr later ↦
            let rest = binding_least xs a r later is in
            let over : IsAtMost (nearer (p x) x (binding p xs).most (binding p xs).by) rest.0 =
            subst (λ (o : Option ℕ). IsAtMost (nearer (p x) x o (binding p xs).by) rest.0) (sym rest.1) (over_at_most (p x) x rest.0 (binding p xs).by) in
            let less = over.2 in
            let more = rest.2 in
            (over.0, over.1, omega (arith, less, more))
      ]

pub until_law : UntilLaw
unfolding binding_reach is_over
until_law g s i forest needed =
    let p : ℕ → Option ℕ = reach g.entries g.margin s (end_of g.entries) in (
      λ within. some_keeps g s forest (λ entry other pair.
          let same = needed.alone other pair.later in
          let over = subst (Over g.entries entry) same pair.over in
          let least = binding_least p (chain g.entries i) entry pair.most over pair.reaches in
          let short : pair.most < (entry_at g.entries i).need = subst (λ n. pair.most < (entry_at g.entries n).need) same pair.short in
          let long : (entry_at g.entries i).need ≤ least.0 = subst (IsWithinReach (entry_at g.entries i).need) least.1 within in
          let less = least.2 in
          absurd (omega (arith, short, long, less))),
      λ beyond. cases_Option (binding p (chain g.entries i)).most (NoneKeeps g s)
          (λ none. absurd (beyond (subst (IsWithinReach (entry_at g.entries i).need) (sym none) tt)))
          (λ m some.
          let has = binding_has p (chain g.entries i) m some in
          elim (cases_lt m (entry_at g.entries i).need) [
            | inl short ↦ none_keeps g s has.0 i (record { over = has.1; later = needed.later; most = m; reaches = has.2; short = short })
            | inr long ↦ absurd (beyond (subst (IsWithinReach (entry_at g.entries i).need) (sym some) long))
          ]),
    )

-- ---- whatever is needed

binding_same : (p q : ℕ → Option ℕ) → ((k : ℕ) → q k ≡ p k) → (xs : List ℕ) → binding q xs ≡ binding p xs
binding_same p q same [] = refl
binding_same p q same (x ∷ xs) =
    ap (λ (own : Option ℕ). nearer own x (binding q xs).most (binding q xs).by) (same x) ∙ ap (λ (b : Bound). nearer (p x) x b.most b.by) (binding_same p q same xs)

reach_same : (g other : Forest) (s k : ℕ) → DifferInNeeds g other → reach other.entries other.margin s (end_of other.entries) k ≡ reach g.entries g.margin s (end_of g.entries) k
unfolding reach reach_of end_of
reach_same g other s k differ =
    ap (λ m. reach_of (entry_at other.entries k) m s (entry_at other.entries k).end) differ.margin ∙ ap (λ (e : Entry). reach_of e g.margin s e.end) (differ.each k).1

pub whatever_is_needed : WhateverIsNeeded
unfolding binding_reach
whatever_is_needed g other s i forest differ =
    let chains = chain_same (suc i) g.entries other.entries (parents_first g forest) (λ k h. ap (λ (e : Entry). e.parent) (differ.each k).1) i (omega arith) in
    ap (binding (reach other.entries other.margin s (end_of other.entries))) chains
    ∙ binding_same (reach g.entries g.margin s (end_of g.entries)) (reach other.entries other.margin s (end_of other.entries)) (λ k. reach_same g other s k differ) (chain g.entries i)
