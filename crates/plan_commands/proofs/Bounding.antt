-- Bounding: whom `reach` names, for `bound_law`.
use Rattle.std.proofs.Common.{◌≡◌, ◌≢◌, ◌∙◌, ◌==◌, ℕ, zero, suc, ◌<◌, ◌≤◌, Bool, true, false, cond, Option, Some, None, map, min, nat_le, refl, sym, ap, subst, arith, inl, inr, ◌⊎◌}
use Rattle.std.proofs.lemmas.{Bool.or_cases, Bool.or_right, Bool.Decides.nat_tests}
use Rattle.plan_forest.specs.Over.{Over, is_over}
use Rattle.plan_forest.specs.Forest.{Forest, end_of, entry_at}
use Rattle.plan_forest.proofs.Placed.{parents_first}
use Rattle.plan_forest.proofs.Chains.{ParentsFirst, cases_Option, chain_child, chain_root, over_child, over_root, over_self}
use Rattle.tick_keeper.specs.Shorten.{least_of, least_reach, lesser}
use Rattle.plan_rule.specs.Reach.{reach}
use Rattle.plan_commands.specs.{declared.bound.Bound.Bound, ReachLaws.Binds, ReachLaws.BoundLaw, ReachText.binding_reach, ReachText.nearer}
use Rattle.tick_keeper.proofs.Shortening.{least_reach_most}
use Rattle.plan_commands.proofs.{Reaching.bound_child, Reaching.bound_root, Until.is_same}

-- ---- of two reaches

nearer_least : (own : Option ℕ) (i : ℕ) (over : Option ℕ) (by : ℕ) → (nearer own i over by).most ≡ lesser own over
nearer_least None i None by = refl
nearer_least (Some r) i (Some m) by = by_test (nat_le m r) refl where
  by_test : (b : Bool) → nat_le m r ≡ b → (let chosen : Bound = cond b (record { most = Some m; by = by }) (record { most = Some r; by = i }) in chosen.most) ≡ Some (min r m)
  by_test true test = let less : m ≤ r = grind (arith, nat_tests) in let least : m ≡ min r m = omega arith in ap Some least
  by_test false test = let less : r < m = grind (arith, nat_tests) in let least : r ≡ min r m = omega arith in ap Some least
nearer_least _ i _ by = refl

-- the entry itself binds, or what binds its parent does: with the lesser of the two reaches
abbrev Chosen : Option ℕ → ℕ → Option ℕ → ℕ → Bound → Type 0
Chosen own i over by b =
    ((b.by ≡ i) × (b.most ≡ own) × ((m : ℕ) → over ≡ Some m → (r : ℕ) × (own ≡ Some r) × (r < m)))
    ⊎ ((b.by ≡ by) × (b.most ≡ over) × (over ≢ None))

chosen : (own : Option ℕ) (i : ℕ) (over : Option ℕ) (by : ℕ) → Chosen own i over by (nearer own i over by)
chosen None i None by = inl (refl, refl, λ m is. absurd cc)
chosen (Some r) i None by = inl (refl, refl, λ m is. absurd cc)
chosen None i (Some m) by = inr (refl, refl, λ none. cc)
chosen (Some r) i (Some m) by = by_test (nat_le m r) refl where
  by_test : (b : Bool) → nat_le m r ≡ b → Chosen (Some r) i (Some m) by (cond b (record { most = Some m; by = by }) (record { most = Some r; by = i }))
  by_test true test = inr (refl, refl, λ none. cc)
  by_test false test = inl (refl, refl, λ k is. let same : m ≡ k = cc in (r, refl, grind (arith, nat_tests)))

-- ---- of the reaches over an entry

lesser_none : (o : Option ℕ) → lesser o None ≡ o
lesser_none None = refl
lesser_none (Some r) = refl

some_of : (o : Option ℕ) (P : Type 0) → o ≢ None → ((r : ℕ) → o ≡ Some r → P) → P
some_of None P some then' = absurd (some refl)
some_of (Some r) P some then' = then' r refl

module _ (g : Forest) (s : ℕ) where
  abbrev p : ℕ → Option ℕ
  p = reach g.entries g.margin s (end_of g.entries)

  least_root : (i : ℕ) → (entry_at g.entries i).parent ≡ None → least_reach g s i ≡ lesser (p i) None
  unfolding least_reach
  least_root i root = ap (λ is. least_of (map (reach g.entries g.margin s (end_of g.entries)) is)) (chain_root g.entries i root)

  least_child : (i q : ℕ) → ParentsFirst g.entries → (entry_at g.entries i).parent ≡ Some q → least_reach g s i ≡ lesser (p i) (least_reach g s q)
  unfolding least_reach
  least_child i q first child = ap (λ is. least_of (map (reach g.entries g.margin s (end_of g.entries)) is)) (chain_child g.entries i q first child)

  root_binds_itself : (i : ℕ) → (entry_at g.entries i).parent ≡ None → Binds g s i (record { most = p i; by = i })
  root_binds_itself i root = record {
    least = sym (lesser_none (p i)) ∙ sym (least_root i root);
    over = over_self g.entries i;
    reaches = refl;
    nearest = λ a over other some. absurd (other (sym (is_same i a (sym (over_root g.entries a i root) ∙ over))));
    itself = λ none. refl;
  }

  module _ (i q : ℕ) (first : ParentsFirst g.entries) (child : (entry_at g.entries i).parent ≡ Some q) (over : Bound) (up : Binds g s q over) (b : Bound) (least : b.most ≡ lesser (p i) over.most) where
    -- over the parent, none has the entry's own reach, where that is less
    none_above : (a r : ℕ) → Over g.entries a q → p a ≡ Some r → ((m : ℕ) → over.most ≡ Some m → (k : ℕ) × (p i ≡ Some k) × (k < m)) → p i ≡ Some r → a ≡ i
    none_above a r above reaches less own =
        let most = least_reach_most g s q a r above reaches in
        let own_less = less most.0 (up.least ∙ most.1) in
        let same : own_less.0 ≡ r = (let both = sym own_less.1 ∙ own in cc) in
        let low = most.2 in
        let high = own_less.2 in
        absurd (omega arith)

    above_or_itself : (a : ℕ) → Over g.entries a i → (a ≡ i) ⊎ Over g.entries a q
    above_or_itself a is =
        elim (or_cases (i == a) (is_over g.entries a q) (sym (over_child g.entries a i q first child) ∙ is)) [ inl same ↦ inl (sym (is_same i a same)) | inr above ↦ inr above ]

    binds_itself : b.by ≡ i → b.most ≡ p i → ((m : ℕ) → over.most ≡ Some m → (r : ℕ) × (p i ≡ Some r) × (r < m)) → Binds g s i b
    binds_itself by most less = record {
      least = least ∙ ap (lesser (p i)) up.least ∙ sym (least_child i q first child);
      over = subst (λ k. Over g.entries k i) (sym by) (over_self g.entries i);
      reaches = ap p by ∙ sym most;
      nearest = λ a is other some reaches.
          some_of (p i) ⊥ (λ none. some (most ∙ none))
          (λ r own. elim (above_or_itself a (subst (Over g.entries a) by is)) [
            | inl itself ↦ other (itself ∙ sym by)
            | inr above ↦ other (none_above a r above (reaches ∙ most ∙ own) less own ∙ sym by)
          ]);
      itself = λ none. by;
    }

    binds_above : b.by ≡ over.by → b.most ≡ over.most → over.most ≢ None → Binds g s i b
    binds_above by most some = record {
      least = least ∙ ap (lesser (p i)) up.least ∙ sym (least_child i q first child);
      over = subst (λ k. Over g.entries k i) (sym by) (over_child g.entries over.by i q first child ∙ or_right (i == over.by) (is_over g.entries over.by q) up.over);
      reaches = ap p by ∙ up.reaches ∙ sym most;
      nearest = λ a is other given reaches. up.nearest a (subst (Over g.entries a) by is) (λ same. other (same ∙ sym by)) some (reaches ∙ most);
      itself = λ none. absurd (some (sym most ∙ none));
    }

  binds_child : (i q : ℕ) → ParentsFirst g.entries → (entry_at g.entries i).parent ≡ Some q → Binds g s q (binding_reach g s q) → Binds g s i (binding_reach g s i)
  binds_child i q first child up =
      let over = binding_reach g s q in
      let is = bound_child g s i q first child in
      let b = nearer (p i) i over.most over.by in
      let least = nearer_least (p i) i over.most over.by in
      subst (Binds g s i) (sym is)
      (elim (chosen (p i) i over.most over.by) [
        | inl own ↦ binds_itself i q first child over up b least own.0 own.1 own.2
        | inr above ↦ binds_above i q first child over up b least above.0 above.1 above.2
      ])

  binds_all : ParentsFirst g.entries → (n i : ℕ) → i < n → Binds g s i (binding_reach g s i)
  binds_all first zero i within = absurd (omega arith)
  binds_all first (suc n) i within =
      cases_Option (entry_at g.entries i).parent (Binds g s i (binding_reach g s i))
      (λ root. subst (Binds g s i) (sym (bound_root g s i root)) (root_binds_itself i root))
      (λ q child. let below : q < i = first i q child in binds_child i q first child (binds_all first n q (omega arith)))

pub bound_law : BoundLaw
bound_law g s i forest within = binds_all g s (parents_first g forest) (suc i) i (omega arith)
