-- The passes over the entries: one entry more, for the loops of planning anew.
use Rattle.std.proofs.Common.{◌≡◌, ℕ, ◌+◌, ◌<◌, ◌≤◌, ◌++◌, Bool, true, false, cond, List, [], ◌∷◌, Option, Some, None, filter, get_or, length, map, nat_lt, set, take, unwrap_or, refl, sym, ap, ◌∙◌, subst, arith, inl, inr}
use Rattle.std.proofs.lemmas.Bool.Decides.{nat_tests}
use Rattle.std.proofs.lemmas.Bool.{cases_eq, cases_lt, cond-true}
use Rattle.std.proofs.lemmas.List.{append-nil, get_or_append_left, get_or_push, length-map, length-set, length_push, map-append}
use Rattle.std.proofs.Math.Seq.{take-append_seam}
use Rattle.std.specs.List.{range_with_len}
use Rattle.base_moment.specs.declared.moment.TheConstants.{LAST}
use Rattle.plan_forest.specs.{declared.entry.Entry.Entry, Push.IsForest}
use Rattle.plan_forest.specs.Forest.{Forest, end_of, entry_at}
use Rattle.plan_forest.proofs.Chains.{ParentsFirst, chain_child, chain_root}
use Rattle.plan_forest.proofs.Entries.{entry_at_past, entry_at_set_other, entry_at_set_same}
use Rattle.plan_rule.specs.Reach.{reach}
use Rattle.plan_rule.proofs.Lists.{need_within}
use Rattle.plan_search.proofs.Wanted.{asked_more}
use Rattle.tick_keeper.specs.{declared.fault.StepFault.StepFault, declared.shortened.ShortNeed.ShortNeed, Replan.PlanFails}
use Rattle.tick_keeper.specs.declared.fault.StepFault.TheVariants.{TooLong, OutOfMemory}
use Rattle.tick_keeper.specs.code.Passes.{AreLeast, AreNeeds, ForestHasNeeds, PlanRefused, forest_with_needs, needing, shorter, so_far}
use Rattle.tick_keeper.specs.Shorten.{cut_to, exceeds, is_short, least_of, least_reach, lesser, need_left, pair_of, pairs, shorten}
use Rattle.tick_keeper.proofs.{Kept.plannable, Kept.same_entries, Needing.length_needing, Needing.needing_at}
use Rattle.tick_keeper.proofs.Shortening.{left_at_most, shorten_at, shorten_count, shorten_is, shorten_margin}

lesser_none : (o : Option ℕ) → lesser o None ≡ o
lesser_none None = refl
lesser_none (Some a) = refl

-- the least reach of an orphan is its own, that of a child the lesser of its own and its parent's
pub least_root : (g : Forest) (t i : ℕ) → (entry_at g.entries i).parent ≡ None → least_reach g t i ≡ reach g.entries g.margin t (end_of g.entries) i
unfolding least_reach
least_root g t i root =
    ap (λ is. least_of (map (reach g.entries g.margin t (end_of g.entries)) is)) (chain_root g.entries i root) ∙ lesser_none (reach g.entries g.margin t (end_of g.entries) i)

pub least_child :
    (g : Forest) (t i p : ℕ) → ParentsFirst g.entries → (entry_at g.entries i).parent ≡ Some p → least_reach g t i ≡ lesser (reach g.entries g.margin t (end_of g.entries) i) (least_reach g t p)
unfolding least_reach
least_child g t i p first child = ap (λ is. least_of (map (reach g.entries g.margin t (end_of g.entries)) is)) (chain_child g.entries i p first child)

-- one element more
pushed : {X : Type 0} (xs : List X) (v d : X) (f : ℕ → X) (n : ℕ) → length xs ≡ n → ((i : ℕ) → i < n → get_or xs i d ≡ f i) → v ≡ f n → (i : ℕ) → i < n + 1 → get_or (xs ++ v ∷ []) i d ≡ f i
pushed xs v d f n count each here i h =
    elim (cases_eq i n) [
      | inl same ↦ subst (λ k. get_or (xs ++ v ∷ []) k d ≡ f k) (sym same) (get_or_push xs v d n count ∙ here)
      | inr other ↦ get_or_append_left xs (v ∷ []) d i (omega arith) ∙ each i (omega arith)
    ]

pub least_more : (g : Forest) (t n : ℕ) (xs : List (Option ℕ)) (v : Option ℕ) → AreLeast g t n xs → v ≡ least_reach g t n → AreLeast g t (n + 1) (xs ++ v ∷ [])
least_more g t n xs v so_far here = record {
  count = (let l = length_push xs v in let c = so_far.count in omega arith);
  each = pushed xs v None (least_reach g t) n so_far.count so_far.each here;
}

pub needs_more : (f : ℕ → ℕ) (n : ℕ) (xs : List ℕ) (v : ℕ) → AreNeeds n f xs → v ≡ f n → AreNeeds (n + 1) f (xs ++ v ∷ [])
needs_more f n xs v so_far here = record {
  count = (let l = length_push xs v in let c = so_far.count in omega arith);
  each = pushed xs v 0 f n so_far.count so_far.each here;
}

-- the need that is left, by what it is shortened to
module _ (g : Forest) (t i : ℕ) (reach : Option ℕ) (need : ℕ) (least : reach ≡ least_reach g t i) (is : need ≡ (entry_at g.entries i).need) where
  same_test : exceeds t reach need ≡ is_short g t i
  unfolding is_short
  same_test = ap (λ o. exceeds t o need) least ∙ ap (exceeds t (least_reach g t i)) is

  pub left_found : unwrap_or (shorter t reach need) need ≡ need_left g t i
  unfolding need_left shorter
  left_found =
      by_test (exceeds t reach need) ∙ ap (λ b. cond b (cut_to reach need) need) same_test ∙ ap (λ o. cond (is_short g t i) (cut_to o need) need) least
      ∙ ap (λ n. cond (is_short g t i) (cut_to (least_reach g t i) n) n) is where
        by_test : (b : Bool) → unwrap_or (cond b (Some (cut_to reach need)) None) need ≡ cond b (cut_to reach need) need
        by_test true = refl
        by_test false = refl

  pub found_short : (n : ℕ) → Some n ≡ shorter t reach need → (is_short g t i ≡ true) × (n ≡ need_left g t i)
  unfolding shorter
  found_short n some =
      let test : exceeds t reach need ≡ true = by_test (exceeds t reach need) some in (
        sym same_test ∙ test,
        by_value (exceeds t reach need) some ∙ left_found,
      ) where
        by_test : (b : Bool) → Some n ≡ cond b (Some (cut_to reach need)) None → b ≡ true
        by_test true e = refl
        by_test false e = absurd cc

        by_value : (b : Bool) → Some n ≡ cond b (Some (cut_to reach need)) None → n ≡ unwrap_or (cond b (Some (cut_to reach need)) None) need
        by_value true e = cc
        by_value false e = absurd cc

  pub found_whole : None ≡ shorter t reach need → is_short g t i ≡ false
  unfolding shorter
  found_whole none = sym same_test ∙ by_test (exceeds t reach need) none where
    by_test : (b : Bool) → None ≡ cond b (Some (cut_to reach need)) None → b ≡ false
    by_test true e = absurd cc
    by_test false e = refl

pub left_within : (g : Forest) → IsForest g → (t i : ℕ) → need_left g t i ≤ LAST
left_within g forest t i = let l = left_at_most g t i in let k = need_within g forest i in omega arith

-- one pair more, or none
pairs_next : (g : Forest) (t n : ℕ) → map (pair_of g t) (filter (is_short g t) (range_with_len 0 (n + 1))) ≡ map (pair_of g t) (filter (is_short g t) (range_with_len 0 n)) ++ map (pair_of g t) (cond (is_short g t n) (n ∷ []) [])
pairs_next g t n = ap (map (pair_of g t)) (asked_more (is_short g t) n) ∙ map-append (pair_of g t) (filter (is_short g t) (range_with_len 0 n)) (cond (is_short g t n) (n ∷ []) [])

pub pairs_more :
    (g : Forest) (t n need : ℕ) (list : List ShortNeed) → list ≡ map (pair_of g t) (filter (is_short g t) (range_with_len 0 n)) → is_short g t n ≡ true → need ≡ need_left g t n →
    list ++ record { entry = n; need = need } ∷ [] ≡ map (pair_of g t) (filter (is_short g t) (range_with_len 0 (n + 1)))
pairs_more g t n need list so_far short is =
    ap (λ xs. xs ++ record { entry = n; need = need } ∷ []) so_far
    ∙ ap (λ k. map (pair_of g t) (filter (is_short g t) (range_with_len 0 n)) ++ record { entry = n; need = k } ∷ []) is
    ∙ sym (pairs_next g t n ∙ ap (λ b. map (pair_of g t) (filter (is_short g t) (range_with_len 0 n)) ++ map (pair_of g t) (cond b (n ∷ []) [])) short)

pub pairs_same :
    (g : Forest) (t n : ℕ) (list : List ShortNeed) → list ≡ map (pair_of g t) (filter (is_short g t) (range_with_len 0 n)) → is_short g t n ≡ false →
    list ≡ map (pair_of g t) (filter (is_short g t) (range_with_len 0 (n + 1)))
pairs_same g t n list so_far whole =
    so_far ∙ sym (append-nil (map (pair_of g t) (filter (is_short g t) (range_with_len 0 n))))
    ∙ sym (pairs_next g t n ∙ ap (λ b. map (pair_of g t) (filter (is_short g t) (range_with_len 0 n)) ++ map (pair_of g t) (cond b (n ∷ []) [])) whole)

pub pairs_all : (g : Forest) (t n : ℕ) → n ≡ length g.entries → map (pair_of g t) (filter (is_short g t) (range_with_len 0 n)) ≡ pairs g t
unfolding pairs
pairs_all g t n count = ap (λ k. map (pair_of g t) (filter (is_short g t) (range_with_len 0 k))) count

-- entries with the same needs are the same
pub needing_same : (es fs : List Entry) (f : ℕ → ℕ) → length es ≡ length fs → ((i : ℕ) → i < length es → entry_at fs i ≡ record (entry_at es i) { need = f i }) → needing es f ≡ fs
needing_same es fs f count each =
    let size = length_needing es f in
    same_entries (needing es f) fs (size ∙ count) (λ i. elim (cases_lt i (length es)) [
      | inl within ↦ needing_at es f i within ∙ sym (each i within)
      | inr past ↦ entry_at_past (needing es f) i (omega arith) ∙ sym (entry_at_past fs i (omega arith))
    ])

pub none_set : (es : List Entry) (needs : List ℕ) → es ≡ needing es (so_far es needs 0)
none_set es needs = sym (needing_same es es (so_far es needs 0) refl (λ i h.
    let none : nat_lt i 0 ≡ false = grind (arith, nat_tests) in
    ap (λ b. record (entry_at es i) { need = cond b (get_or needs i 0) (entry_at es i).need }) (sym none)))

pub one_set :
    (es : List Entry) (needs : List ℕ) (n : ℕ) → n < length es → let fs = needing es (so_far es needs n) in
    set fs n (record (entry_at fs n) { need = get_or needs n 0 }) ≡ needing es (so_far es needs (n + 1))
one_set es needs n within =
    let fs = needing es (so_far es needs n) in
    let e = record (entry_at fs n) { need = get_or needs n 0 } in
    let size = length_needing es (so_far es needs n) in
    let sizes = length-set fs n e in
    let next : ℕ → Entry = λ k. record (entry_at es k) { need = so_far es needs (n + 1) k } in
    sym (needing_same es (set fs n e) (so_far es needs (n + 1)) (omega arith) (λ i inside. elim (cases_eq i n) [
      | inl same ↦
          let here : nat_lt n (n + 1) ≡ true = grind (arith, nat_tests) in
          ap (entry_at (set fs n e)) same ∙ entry_at_set_same fs n e (omega arith) ∙ ap (λ (x : Entry). record x { need = get_or needs n 0 }) (needing_at es (so_far es needs n) n within)
          ∙ ap (λ k. record (entry_at es n) { need = k }) (sym (cond-true (nat_lt n (n + 1)) (get_or needs n 0) (entry_at es n).need here))
          ∙ ap next (sym same)
      | inr other ↦
          let test : nat_lt i n ≡ nat_lt i (n + 1) = grind (arith, nat_tests) in
          entry_at_set_other fs n i e other ∙ needing_at es (so_far es needs n) i inside ∙ ap (λ b. record (entry_at es i) { need = cond b (get_or needs i 0) (entry_at es i).need }) test
    ]))

pub all_set : (es : List Entry) (needs : List ℕ) (n : ℕ) → length es ≤ n → needing es (so_far es needs n) ≡ needing es (λ i. get_or needs i 0)
all_set es needs n whole =
    let f : ℕ → ℕ = λ i. get_or needs i 0 in
    needing_same es (needing es f) (so_far es needs n) (sym (length_needing es f)) (λ i within.
    let here : nat_lt i n ≡ true = grind (arith, nat_tests) in
    needing_at es f i within ∙ ap (λ k. record (entry_at es i) { need = k }) (sym (cond-true (nat_lt i n) (get_or needs i 0) (entry_at es i).need here)))

-- the forest with the needs that are left, and with those that it had
pub shortened_set : (g : Forest) (t : ℕ) (needs : List ℕ) → AreNeeds (length g.entries) (need_left g t) needs → record { entries = needing g.entries (λ i. get_or needs i 0); margin = g.margin } ≡ shorten g t
shortened_set g t needs are =
    let f = need_left g t in
    ap (λ es. record { entries = es; margin = g.margin })
    (needing_same g.entries (needing g.entries f) (λ i. get_or needs i 0) (sym (length_needing g.entries f))
    (λ i within. needing_at g.entries f i within ∙ ap (λ k. record (entry_at g.entries i) { need = k }) (sym (are.each i within))))
    ∙ sym (shorten_is g t)

pub restored :
    (g h : Forest) (t : ℕ) (needs : List ℕ) → h ≡ shorten g t → AreNeeds (length g.entries) (λ i. (entry_at g.entries i).need) needs → record { entries = needing h.entries (λ i. get_or needs i 0); margin = h.margin } ≡ g
restored g h t needs is are =
    ap (λ x. record { entries = needing x.entries (λ i. get_or needs i 0); margin = x.margin }) is
    ∙ ap (λ es. record { entries = es; margin = (shorten g t).margin })
    (needing_same (shorten g t).entries g.entries (λ i. get_or needs i 0) (shorten_count g t)
    (λ i inside.
    let within : i < length g.entries = (let l = shorten_count g t in omega arith) in
    ap (λ k. record (entry_at g.entries i) { need = k }) (sym (are.each i within)) ∙ ap (λ (x : Entry). record x { need = get_or needs i 0 }) (sym (shorten_at g t i within))))
    ∙ ap (λ m. record { entries = g.entries; margin = m }) (shorten_margin g t)

-- shortening taken back
pub taken_back :
    (g h : Forest) (t : ℕ) (list more : List ShortNeed) (needs : List ℕ) (noted : ℕ) → h ≡ shorten g t → more ≡ list ++ pairs g t → noted ≡ length list → ForestHasNeeds g needs →
    (forest_with_needs h needs ≡ g) × (take noted more ≡ list)
taken_back g h t list more needs noted is notes count has =
    (restored g h t needs is has, ap (take noted) notes ∙ ap (λ n. take n (list ++ pairs g t)) count ∙ take-append_seam list (pairs g t))

-- a plan that is too long, or for which there is no memory
pub fails : (g : Forest) → IsForest g → (t : ℕ) (fault : StepFault) → PlanRefused (shorten g t) t fault → PlanFails g t fault
fails g forest t TooLong long =
    let best = (plannable g t forest).1.1 in
    let many = long.long best.1.plan best.1.in_order best.1.kept in
    record { moments = best.0; best = best.1; many = (let l = ap length best.1.at_these in let k = length-map best.1.plan (λ w. w.at) in omega arith) }
fails g forest t OutOfMemory refused = tt
fails g forest t _ refused = absurd refused
